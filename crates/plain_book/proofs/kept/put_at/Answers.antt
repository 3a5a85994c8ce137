use Rattle.std.proofs.Common.{sym}
use Rattle.plain_book.proofs.Places.{put_some}
use Rattle.plain_book.proofs.kept.put_at.Goals as goal

pub returns-clause-put : goal.returns-clause-put
returns-clause-put c = put_some c.args.accounts.now.items c.insert.new.self.items c.args.at c.args.account (sym c.if-is_empty.ensures) c.in_ok-insert.ensures.items
