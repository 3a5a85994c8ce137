-- The fixed table has at each place what its rule gives there, by one computation.
use Rattle.std.proofs.Common.{◌≡◌, ℕ, ◌<◌, map, length, get_or, refl, ap, ◌∙◌, arith}
use Rattle.std.specs.List.{range_with_len}
use Rattle.std.proofs.lemmas.List.FromFn.{get_or-map-range_with_len}
use Rattle.narration.specs.Letters.{mapped, ruled, fixed_table, TableAsSaid}

all_right : fixed_table ≡ map ruled (range_with_len 0 256)
unfolding fixed_table
all_right = refl

pub table_long : length fixed_table ≡ 256
unfolding fixed_table
table_long = refl

pub table_right : (b : ℕ) → b < 256 → mapped fixed_table b ≡ ruled b
table_right b h = ap (λ table. get_or table b 0) all_right ∙ get_or-map-range_with_len ruled 0 256 b b 0 h (omega arith)

pub table_as_said : TableAsSaid
table_as_said = record { has_256_bytes = table_long; follows_the_rule = table_right }
