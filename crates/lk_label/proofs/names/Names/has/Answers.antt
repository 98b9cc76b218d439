use Rattle.std.proofs.Common.{◌≡◌, ◌↔◌, true, subst, Contains}
use Rattle.lk_facts.proofs.Numbers.{contains}
use Rattle.lk_facts.proofs.Same.{same_name, name_itself}
use Rattle.lk_label.proofs.names.Names.has.Goals as goal

pub returns : goal.returns
returns c =
    subst (λ xs. (c.contains.result ≡ true) ↔ Contains xs c.args.name.now) c.self.view_is
    (contains _ same_name name_itself c.self.inside.set.keys c.args.name.now c.contains.result c.contains.ensures)
