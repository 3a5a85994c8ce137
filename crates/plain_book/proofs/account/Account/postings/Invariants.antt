use Rattle.std.proofs.Common.{◌≡◌, ℕ, List, ◌++◌, map, take, vec_items}
use Rattle.std.specs.List.{flat_map}
use Rattle.plain_book.proofs.account.Account.postings.Given as goal

abbrev pub invariant-loop-record : goal.invariant-loop-record
invariant-loop-record l = vec_items l.all ≡ vec_items l.self.inline ++ flat_map (λ (r : List ℕ). r) (map vec_items (take l.record-index (vec_items l.self.records)))
