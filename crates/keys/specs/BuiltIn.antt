-- The two kinds that the kernel brings.
use Rattle.std.proofs.Common.{lit<}
use Rattle.keys.specs.Kinds.{Kind}
use Rattle.keys.specs.Making.{kind_of}
use Rattle.keys.specs.Fields.{by_bytes}
use Rattle.keys.specs.Words.{lawful_word}
use Rattle.keys.specs.WordLaws.{word_has_24, word_bytes}
use Rattle.keys.specs.AccountDays.{account_of, day_of, lawful_account_day, by_account_and_day}
use Rattle.keys.specs.AccountDayLaws.{account_day_from_lawful, account_day_same}
use Rattle.keys.specs.ThenBy.{by_number_is_total, by_signed_is_total, by_bytes_is_total, parts_exchanged, parts_itself, parts_climb}

-- kind 1: narration words, byte by byte
abbrev pub word_kind : Kind
word_kind = kind_of 1 lawful_word by_bytes (record {
  is_a_byte = lit< tt;
  long = word_has_24;
  bytes = word_bytes;
  exchanged = λ a b la lb. by_bytes_is_total.exchanged a b;
  itself = λ a la. by_bytes_is_total.itself a;
  same = λ a b la lb. by_bytes_is_total.same a b;
  climbs = λ a b d la lb ld. by_bytes_is_total.climbs a b d;
})

-- kind 2: accounts and days, by account and then by day
abbrev pub account_day_kind : Kind
account_day_kind = kind_of 2 lawful_account_day by_account_and_day (record {
  is_a_byte = lit< tt;
  long = λ a la. (account_day_from_lawful a la).has_24_bytes;
  bytes = λ a la. (account_day_from_lawful a la).holds_bytes;
  exchanged = λ a b la lb. parts_exchanged by_number_is_total by_signed_is_total account_of day_of a b;
  itself = λ a la. parts_itself by_number_is_total by_signed_is_total account_of day_of a;
  same = λ a b la lb. account_day_same a b (account_day_from_lawful a la) (account_day_from_lawful b lb);
  climbs = λ a b d la lb ld. parts_climb by_number_is_total by_signed_is_total account_of day_of a b d;
})
