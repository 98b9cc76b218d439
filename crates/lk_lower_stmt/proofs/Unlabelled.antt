-- Statements in which no `case` and no `default` stands.
use Rattle.std.proofs.Common.{ap, ◌∙◌, ◌≡◌, ◌++◌, refl, ℕ, List, Option, None, Some}
use Rattle.std.specs.Prelude.{[], ◌∷◌, map}
use Rattle.lk_base.specs.declared.cell.CellStep.{CellStep}
use Rattle.lk_base.specs.declared.spot.Spot.{Spot}
use Rattle.lk_facts.specs.declared.place.Place.{Place}
use Rattle.lk_lower_expr.specs.Names.{Names}
use Rattle.lk_lower_expr.specs.Parts.{Part}
use Rattle.lk_lower_expr.specs.Statements.{expression_flow, first_in, init_by, init_flow, labelled_in, return_flow, to, value_flow, whole_flow}
use Rattle.lk_lower_expr.specs.declared.goals.Goals.{Goals}
use Rattle.lk_typed.specs.declared.expression.TypedExpr.{TypedExpr}
use Rattle.lk_typed.specs.declared.initialiser.LocalPart.{LocalPart}
use Rattle.lk_typed.specs.declared.initialiser.LocalValue.{LocalValue}
use Rattle.lk_typed.specs.declared.initialiser.LocalValue.TheVariants as value
use Rattle.lk_typed.specs.declared.statement.LocalInit.{LocalInit}

module _ (names : Names) (go : Goals) where
  pub no_label_in_expression : (e : Option TypedExpr) → (expression_flow names e).labelled go ≡ []
  no_label_in_expression None = refl
  no_label_in_expression (Some e) = refl

  pub no_label_in_return : (o : ℕ) (spot : Spot) (a : Option Part) → (return_flow names o spot a).labelled go ≡ []
  no_label_in_return o spot None = refl
  no_label_in_return o spot (Some a) = refl

  in_value : (local slot : ℕ) (is : LocalValue) → (value_flow names local slot is).labelled go ≡ []
  in_value local slot (value.Expr e) = refl
  in_value local slot (value.Text spot text bytes) = refl
  in_value local slot value.Ready = refl

  in_whole : (local slot : ℕ) (named : List LocalPart) → (whole_flow names local slot named).labelled go ≡ []
  in_whole local slot [] = refl
  in_whole local slot (one ∷ others) = in_value local slot one.value

  in_init_by : (place : ℕ → List CellStep → Place) (slot : Option ℕ) (one : LocalInit) → (init_by names place slot one).labelled go ≡ []
  in_init_by place None one = refl
  in_init_by place (Some slot) one = in_whole one.local slot one.named

pub no_label_in_inits : (names : Names) (place : ℕ → List CellStep → Place) (list : List LocalInit) (go : Goals) → labelled_in (map (init_flow names place) list) go ≡ []
no_label_in_inits names place [] go = refl
no_label_in_inits names place (one ∷ others) go =
    ap (λ ls. ls ++ (init_flow names place one).labelled (to (first_in (map (init_flow names place) others) go) go)) (no_label_in_inits names place others go) ∙
    in_init_by names (to (first_in (map (init_flow names place) others) go) go) place (names.slot one.local) one
