-- One page copied over another.
use Rattle.std.specs.Prelude.{ℕ, replicate}
use Rattle.refusals.specs.Refusals.{Answer, on_accepted}
use Rattle.page_store.specs.Meanings.{Meaning, read_answer, write_answer, after_read, after_write}

-- refused as the read is or, after that, as the write is
abbrev pub copy_answer : Meaning → (from to : ℕ) → Answer Unit
copy_answer m from to = on_accepted (read_answer m from 512) (write_answer m to 512) (read_answer m from 512)

abbrev pub after_copy : Meaning → (from to : ℕ) → Meaning
after_copy m from to = on_accepted (read_answer m from 512) (after_write m to (after_read m from (replicate 512 0))) m
