use Rattle.std.proofs.Common.{ℕ, ◌+◌, ◌-◌, ◌*◌, ◌/◌, List, ◌++◌, length, take, sym, refl, ap, ◌∙◌, ltb, leb, arith}
use Rattle.std.proofs.lemmas.Bool.{ltb-true, and_parts}
use borrow.Rule.Slice.PartMut.{put_mid, post_of, Post-is}
use Rattle.listing.specs.Windows.{with_bytes}
use Rattle.listing.proofs.Overwriting.{written_is}
use Rattle.listing.proofs.Filling.{put_not_shown, put_shown}
use Rattle.listing.proofs.rows.Window.put_row.Goals as goal

pub returns-then-not-shows : goal.returns-then-not-shows
returns-then-not-shows c =
    let self = c.args.self.now in
    record {
      is_put = ap (with_bytes self) (sym (put_not_shown self.skip c.args.at (record { key = c.args.key.now; posting = c.args.posting }) self.buffer.now (omega arith) (sym c.shows.ensures.tells_the_window ∙ c.if-not-shows.true)));
    }

pub returns : goal.returns
returns c =
    let self = c.args.self.now in
    let key = c.args.key.now in
    let place = (c.args.at - self.skip) * 32 in
    let shown = sym c.shows.ensures.tells_the_window ∙ c.if-not-shows.false in
    let parts = and_parts (leb self.skip c.args.at) (ltb (c.args.at - self.skip) (length self.buffer.now / 32)) shown in
    let room = ltb-true (c.args.at - self.skip) (length self.buffer.now / 32) parts.1 in
    let keyed =
    ap (λ (ys : List ℕ). take place self.buffer.now ++ (ys ++ post_of place (place + 24 - place) self.buffer.now)) c.copy_from_slice.ensures.after
    ∙ ap (λ (ys : List ℕ). take place self.buffer.now ++ (key ++ ys)) (Post-is place (place + 24) self.buffer.now (omega arith))
    ∙ sym (written_is self.buffer.now key place (place + 24) (omega arith) (omega arith)) in
    record {
      is_put =
          ap (with_bytes self)
          (put_shown self.skip c.args.at key c.args.posting place self.buffer.now (put_mid place (place + 24 - place) self.buffer.now c.copy_from_slice.new.self) c.write_at.new.bytes (omega arith) shown refl keyed c.write_at.ensures.is_written_there);
    }
