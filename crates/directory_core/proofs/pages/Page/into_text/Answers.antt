use Rattle.std.proofs.Common.{sym}
use Rattle.directory_core.proofs.PageLaws.{no_more}
use Rattle.directory_core.proofs.pages.Page.into_text.Goals as goal

pub returns : goal.returns
returns c = sym (no_more c.args.self.text c.args.self.skip c.args.self.most)
