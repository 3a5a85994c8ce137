-- What the calls of an executable book answer.
use Rattle.std.specs.Prelude.{◌≡◌, ℕ, List, length, Some, None, Ok, Err, Option, Result}
use Rattle.std.specs.Borrow.{Bor}
use Rattle.refusals.specs.Refusals.{Answer, Accepted, Refused, number_of, place_of}
use Rattle.plain_book.specs.declared.failure.Failure.{Failure}
use Rattle.plain_book.specs.declared.failure.Failure.TheVariants.{Refuses, OutOfMemory}
use Rattle.plain_book.specs.declared.looked.Looked.{Looked}
use Rattle.plain_book.specs.declared.looked.Listing.{Listing}
use Rattle.book.specs.Looking as looking
use Rattle.book.specs.Entries.{Entry, Entries, paged}
use Rattle.plain_book.specs.declared.account.Account.{Account}
use Rattle.plain_book.specs.Accounts.{entry_in}

-- a merge gives what it should and answers the number of keys; refused, it changes nothing; out of memory, nothing is said
abbrev pub MergedAs : Answer Entries → (before : Entries) → Result ℕ Failure → (after : Entries) → Type 0
MergedAs answer before (Ok keys) after = (answer ≡ Accepted after) × (keys ≡ length after)
MergedAs answer before (Err (Refuses refusal)) after = (answer ≡ Refused (number_of refusal) (place_of refusal)) × (after ≡ before)
MergedAs answer before (Err OutOfMemory) after = Unit {0}

-- a call answers by its numbers and fills what it was lent as it should; refused or out of memory, it leaves that
abbrev pub FilledAs : {A N : Type 0} → (said : N → A) → Answer A → (filled before : List ℕ) → Result N Failure → (after : List ℕ) → Type 0
FilledAs said answer filled before (Ok numbers) after = (answer ≡ Accepted (said numbers)) × (after ≡ filled)
FilledAs said answer filled before (Err (Refuses refusal)) after = (answer ≡ Refused (number_of refusal) (place_of refusal)) × (after ≡ before)
FilledAs said answer filled before (Err OutOfMemory) after = after ≡ before

-- a lookup and its list
abbrev pub LookedAs : Answer looking.Looked → (filled before : List ℕ) → Result Looked Failure → (after : List ℕ) → Type 0
LookedAs = FilledAs (λ looked. record { total = looked.total; written = looked.written })

-- a listing and its buffer
abbrev pub ListedAs : Answer looking.Listing → (filled before : List ℕ) → Result Listing Failure → (after : List ℕ) → Type 0
ListedAs = FilledAs (λ listing. record { total = listing.total; rows = listing.rows })

-- the account of an entry: none if the entry is empty
abbrev pub AccountIs : Entry → Option (Bor Account) → Type 0
AccountIs entry None = entry ≡ paged.none
AccountIs entry (Some account) = entry_in account.now ≡ entry
