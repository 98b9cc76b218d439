use Rattle.std.proofs.Common.{◌∙◌, sym, ap}
use Rattle.lk_typed.specs.Names.{is_static}
use Rattle.lk_typed.specs.Typing.{AtObject}
use Rattle.lk_typed.specs.Words.{address_of_storage}
use Rattle.lk_found.specs.Addresses.{kept_of}
use Rattle.lk_found.proofs.addresses.stored.Goals as goal

pub returns-in-Static : goal.returns-in-Static
returns-in-Static c = λ n. c.whole.ensures (AtObject n) ∙ ap (λ d. kept_of (address_of_storage (is_static d) n)) (sym c.in-Static.is)
