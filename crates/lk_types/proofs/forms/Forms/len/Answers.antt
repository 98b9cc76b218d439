use Rattle.std.proofs.Common.{subst}
use Rattle.lk_types.specs.Forms.{AreApart}
use Rattle.lk_types.proofs.FormEq.{apart_from_unique}
use Rattle.lk_types.proofs.forms.Forms.len.Goals as goal

pub returns-clause-apart : goal.returns-clause-apart
returns-clause-apart g c = subst AreApart c.self.view_is (apart_from_unique c.self.inside.entries.entries c.len.ensures.unique)
