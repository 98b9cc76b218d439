-- The function main of the sources.
use Rattle.std.proofs.Common.{sym, subst, ◌∙◌, ◌≡◌, ◌+◌, ℕ, get_or, slice_get, Option, None, Some, refl}
use Rattle.std.specs.Option.{option_and_then}
use Rattle.std.specs.Prelude.{nat_lt}
use Rattle.std.proofs.lemmas.Option.{none-some}
use Rattle.lk_lower_expr.specs.Lowering.{declaration_of}
use Rattle.lk_lower_parts.specs.Mains.{IsMainOf}
use Rattle.lk_lower_parts.specs.Sources.{defined_of}
use Rattle.lk_lower_parts.specs.declared.counts.FunctionNumbers.{FunctionNumbers}
use Rattle.lk_lower_parts.specs.declared.start.Main.{Main}
use Rattle.lk_typed.specs.declared.entity.Declaration.{Declaration}
use Rattle.lk_typed.specs.declared.entity.Entity.{Entity}
use Rattle.lk_typed.specs.declared.unit.Body.{Body}
use Rattle.lk_typed.specs.declared.whole.Linked.{Linked}
use Rattle.lk_typed.specs.declared.whole.Whole.{Whole}
use Rattle.lk_typed.specs.declared.whole.WholeEntity.{WholeEntity}

here_of : (found : Option WholeEntity) (definition : ℕ × ℕ) → option_and_then (λ (entity : WholeEntity). entity.defined) found ≡ Some definition → (here : WholeEntity) × (found ≡ Some here) × (here.defined ≡ Some definition)
here_of None definition is = absurd (none-some definition is)
here_of (Some here) definition is = (here, refl, is)

pub main_is : (whole : Whole) (functions : FunctionNumbers) (main : Main) (s e b : ℕ) (linked : Linked) (body : Body) (entity : Entity) (by : Declaration) → defined_of whole whole.main ≡ Some (s, e) → slice_get whole.sources s ≡ Some linked →
    slice_get linked.entities e ≡ Some whole.main → slice_get linked.unit.bodies b ≡ Some body → body.entity ≡ e → slice_get linked.unit.entities e ≡ Some entity → declaration_of entity ≡ Some by → main.function ≡ get_or functions.first s 0 + b →
    main.spot ≡ by.spot → main.has_parameters ≡ nat_lt 0 body.parameters → IsMainOf whole functions main
main_is whole functions main s e b linked body entity by defined source numbered at of entity_at declared function spot parameters =
    let found = here_of (slice_get whole.entities whole.main) (s, e) defined in record {
      s = s;
      b = b;
      body = body;
      by = by;
      is = λ numbers program counts starts. record {
        linked = linked;
        of = record { source = source; at = at };
        entity = entity;
        here = found.0;
        at = found.1;
        is = record {
          source = source;
          at = subst (λ n. slice_get linked.unit.entities n ≡ Some entity) (sym of) entity_at;
          number = whole.main;
          numbered = subst (λ n. slice_get linked.entities n ≡ Some whole.main) (sym of) numbered;
          is = found.1;
          there = subst (λ n. found.0.defined ≡ Some (s, n)) (sym of) found.2;
          declared = declared;
        };
        numbered = starts ∙ function ∙ sym counts;
      };
      spot_ = spot;
      parameters = parameters;
    }
