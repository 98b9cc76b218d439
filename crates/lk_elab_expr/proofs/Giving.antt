-- What stands for an operand, in later states.
use Rattle.std.proofs.Common.{◌≡◌, Bool, true, false, ℕ, refl, subst}
use Rattle.std.specs.Prelude.{◌&&◌}
use Rattle.lk_typed.specs.Ty.{Ty}
use Rattle.lk_elaborator.specs.Converting.{ConvertedTo, Gives, NodeSays}
use Rattle.lk_elaborator.specs.Leading.{Grows}
use Rattle.lk_elaborator.specs.declared.elaborator.Elaborator.{Elaborator}
use Rattle.lk_elaborator.specs.declared.parts.Part.{Part}
use Rattle.lk_elaborator.proofs.Growing.{leads_before, true_on}

pub gives_later : (a b c : Elaborator) (n : ℕ) (part : Part) (Says : NodeSays) → Grows b c → Gives a b n part Says → Gives a c n part Says
gives_later a b c n part Says grows gives = λ p same true_of tables leads folded t is. gives p same true_of tables (leads_before b c tables grows leads) folded t is

pub gives_earlier : (a b c : Elaborator) (n : ℕ) (part : Part) (Says : NodeSays) → Grows a b → Gives b c n part Says → Gives a c n part Says
gives_earlier a b c n part Says grows gives = λ p same true_of tables leads folded t is. gives p same (true_on a b grows p true_of) tables leads folded t is

pub gives_to : (a b : Elaborator) (n : ℕ) (part : Part) (t u : Ty) → t ≡ u → Gives a b n part (ConvertedTo t) → Gives a b n part (ConvertedTo u)
gives_to a b n part t u same gives = subst (λ t. Gives a b n part (ConvertedTo t)) same gives

pub and_true : (b : Bool) → (b && true) ≡ b
and_true true = refl
and_true false = refl
