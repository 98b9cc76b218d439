-- What a function takes and gives that is called through a pointer: a value that is right for the result of the function is right for the
-- result of what the operand points to, and one that is right for a parameter of what the operand points to is right for that of the function.
use Rattle.std.proofs.Common.{◌≡◌, ℕ, suc, true, List, [], Some, refl, sym, ap, subst, ◌∙◌}
use Rattle.std.specs.List.{slice_get}
use Rattle.std.specs.Prelude.{unwrap_or}
use Rattle.lk_facts.specs.EdgeRules.{Of, value, target, code, IsInside}
use Rattle.lk_facts.specs.LabelRules.{IsLabel, IsPart, IsWhole, form_of, is_function}
use Rattle.lk_facts.specs.LabelRules.IsNodeOf.{part as node_part}
use Rattle.lk_facts.specs.Labels.{LabelTable, name_with}
use Rattle.lk_facts.specs.declared.edge.Edge.{Edge}
use Rattle.lk_facts.specs.declared.label_entry.LabelName.{LabelName}
use Rattle.lk_facts.specs.declared.program.Program.{Program}
use Rattle.lk_facts.specs.declared.root.Holder.{Holder}
use Rattle.lk_facts.specs.declared.root.Holder.TheVariants.{Root}
use Rattle.lk_laws.proofs.AlikeEdges.{code_type, function_known, one_type, root_is_one}
use Rattle.lk_laws.proofs.AlikeTypes.{back, parts_alike}
use Rattle.lk_laws.proofs.EdgeEnds.{IsThere, label_there}
use Rattle.lk_laws.proofs.NodesThere.{field_too_there, function_too, pointer_too}
use Rattle.lk_laws.proofs.OneCode.{functions_have_one_code}
use Rattle.lk_laws.proofs.OneContent.{has_node}
use Rattle.lk_laws.specs.CodeLaws.{IsBehindAt, IsPartBehindAt, HaveOneCode}
use Rattle.lk_laws.specs.FlowLaws.{type_of}
use Rattle.lk_right.proofs.Cells.{one_target}
use Rattle.lk_right.proofs.Meeting.{IsBeside, alike_along, labelled, moved}
use Rattle.lk_laws.specs.RowLaws.{HasPointer}
use Rattle.lk_right.specs.Contexts.{Home}
use Rattle.lk_right.specs.Laws.{IsAnalysed}
use Rattle.lk_right.specs.Right.{IsFunctionRight, IsRight}
use Rattle.lk_types.proofs.PathLemmas.{equal_nodes_have_equal_ids}
use Rattle.lk_types.specs.Equal.{IsAlike}
use Rattle.lk_types.specs.Nodes.{node_of, first}
use Rattle.lk_types.specs.Table.{Table}
use Rattle.lk_types.specs.declared.c_type.CType.TheVariants.{Void, Function as FunctionType}
use Rattle.lk_types.specs.declared.node.Base.TheVariants.{Start}
use Rattle.lk_types.specs.declared.node.Sel.TheVariants.{Target, Field, Part}
use Rattle.lk_values.specs.declared.value.Value.{Value}

module _ (program : Program) (labels : LabelTable) (es : List Edge) (ok : IsAnalysed program labels es) where
  abbrev table : Table
  table = program.types

  abbrev Alike : ℕ → ℕ → Type 0
  Alike a b = IsAlike program.types.types a b

  abbrev ty : LabelName → ℕ
  ty x = type_of program x

  abbrev Named : ℕ → LabelName → Type 0
  Named a x = slice_get labels.names a ≡ Some x

  same_name : (x y : LabelName) → x.holder ≡ y.holder → x.node ≡ y.node → x ≡ y
  same_name x y h k = ap (λ h. name_with h x.node) h ∙ ap (λ n. name_with y.holder n) k

  -- a holder is named by one label
  one_whole : (h : Holder) (x y : LabelName) → IsWhole program h x → IsWhole program h y → x ≡ y
  one_whole h x y a b =
      let types = one_type program ok.table ok.lowered h b.ty a.ty b.has a.has in
      let starts = subst (λ t. node_of table y.node ≡ first (Start t)) types b.start.first in
      same_name x y (a.holder ∙ sym b.holder) (equal_nodes_have_equal_ids table x.node y.node a.start.node b.start.node (a.start.first ∙ sym starts))

  -- and so is a function
  pub one_function : (g : ℕ) (x y : LabelName) → code program g x → code program g y → x ≡ y
  one_function g x y h k = one_whole (Root k.0) x y (subst (λ r. IsWhole program (Root r) x) (root_is_one program ok.table ok.lowered g h.0 k.0 h.1 k.1) h.2) k.2

  -- what names a function has the form of one
  pub is_code : (g : ℕ) (x : LabelName) → code program g x → is_function (form_of table x.node) ≡ true
  is_code g x h =
      let function = ok.lowered.functions g (function_known program ok.table ok.lowered g h.0 h.1) in
      let form = FunctionType function.result function.params function.dots in
      let of = code_type program ok.table ok.lowered g form function.of x h in
      function_too table ok.table (ty x) of.0 of.1 ∙ ap (λ o. is_function (unwrap_or o Void)) of.2

  -- the result or parameter of a function, where one of a type alike to its own has it
  record Partner (v x : LabelName) (j : ℕ) : Type 0 where
    y : LabelName
    part : IsPart program v (Field j) y
    there : IsThere program y
    same : Alike (ty x) (ty y)

  partner : (u v x : LabelName) (j : ℕ) → IsLabel program v → Alike (ty u) (ty v) → IsPart program u (Field j) x → Partner v x j
  partner u v x j label alike part =
      let v_there = label_there program v label in
      let node = field_too_there table ok.table u.node v.node j x.node (has_node program ok.table ok.lowered labels ok.labelled ok.few_labels es ok.joined v label) alike part.steps in
      record {
        y = name_with v.holder node.0;
        part = record { holder = refl; steps = node.1 };
        there = record { ty = v_there.ty; has = v_there.has; of = node_part v.node node.0 (Field j) v_there.of node.1 };
        same = parts_alike table ok.table (node_of table u.node) (node_of table v.node) (node_of table x.node) (node_of table node.0) (Field j) alike part.steps.leads node.1.leads;
      }

  -- a label that has the form of a function
  record IsCode (a : ℕ) (u : LabelName) : Type 0 where
    function : is_function (form_of table u.node) ≡ true
    named : Named a u

  behind_at : (u x v : LabelName) (k a s : ℕ) → IsCode a u → Named s v → IsPart program u (Field k) x → IsPart program x Target v → IsBehindAt program labels k a s
  behind_at u x v k a s code v_at part leads = record { function = u; behind = v; function_at = code.named; behind_at = v_at; is = record { function = code.function; points = (x, part, leads) } }

  part_behind_at : (n : ℕ) (u x v p : LabelName) (k a s : ℕ) → IsCode a u → Named s p → IsPart program u (Field k) x → IsPart program x Target v → IsInside program v (Part n) p →
      IsPartBehindAt program labels n k a s
  part_behind_at n u x v p k a s code p_at part leads inner =
      record { function = u; void = v; part = p; function_at = code.named; part_at = p_at; is = record { function = code.function; points = (x, part, leads) }; part_of = inner }

  -- the operand a gave a pointer to the function g, in the context d
  module _ (homes : List Home) (g a : ℕ) (d : List ℕ) (right : IsFunctionRight program labels es homes g (value program a) d) where
    one_code : HaveOneCode program labels es right.flows.from [] right.flows.to d
    one_code = functions_have_one_code program ok.table ok.lowered labels ok.labelled ok.few_labels es ok.joined right.flows.from right.flows.to [] d right.flows.walk

    alike : Alike (ty right.origin) (ty right.aim)
    alike = alike_along program labels es ok right.flows.walk right.origin right.aim right.flows.from_at right.flows.to_at

    aimed : target program a right.aim
    aimed = (right.held_by, right.is, right.aims.leads)

    from : IsCode right.flows.from right.origin
    from = record { function = is_code g right.origin right.place; named = right.flows.from_at }

    to : IsCode right.flows.to right.aim
    to = record { function = sym (function_too table ok.table (ty right.origin) (ty right.aim) alike) ∙ from.function; named = right.flows.to_at }

    of_function : (j : ℕ) (x : LabelName) → Of program (code program g) (Field j) x → IsPart program right.origin (Field j) x
    of_function j x h = subst (λ u. IsPart program u (Field j) x) (one_function g h.0 right.origin h.1 right.place) h.2

    of_target : (j : ℕ) (x : LabelName) → Of program (target program a) (Field j) x → IsPart program right.aim (Field j) x
    of_target j x h = subst (λ u. IsPart program u (Field j) x) (one_target program a h.0 right.aim h.1 aimed) h.2

    result_beside : (x : LabelName) → Of program (code program g) (Field 0) x → IsBeside program labels es ok (Of program (target program a) (Field 0)) [] d x
    result_beside x h =
        let part = of_function 0 x h in
        let other = partner right.origin right.aim x 0 (labelled program labels es ok right.flows.to right.aim right.flows.to_at) alike part in
        record {
          y = other.y;
          is = (right.aim, aimed, other.part);
          there = other.there;
          same = other.same;
          targets = λ v w s t leads leads' v_at w_at.
              one_code.results s t (behind_at right.origin x v 0 right.flows.from s from v_at part leads) (behind_at right.aim other.y w 0 right.flows.to t to w_at other.part leads');
          parts = λ n v w p q s t leads leads' inner inner' p_at q_at.
              one_code.result_parts n s t (part_behind_at n right.origin x v p 0 right.flows.from s from p_at part leads inner)
              (part_behind_at n right.aim other.y w q 0 right.flows.to t to q_at other.part leads' inner');
        }

    parameter_beside : (k : ℕ) (x : LabelName) → Of program (target program a) (Field (suc k)) x → IsBeside program labels es ok (Of program (code program g) (Field (suc k))) d [] x
    parameter_beside k x h =
        let part = of_target (suc k) x h in
        let other = partner right.aim right.origin x (suc k) (labelled program labels es ok right.flows.from right.origin right.flows.from_at) (back table.types alike) part in
        record {
          y = other.y;
          is = (right.origin, right.place, other.part);
          there = other.there;
          same = other.same;
          targets = λ v w s t leads leads' v_at w_at.
              one_code.parameters k t s (behind_at right.origin other.y w (suc k) right.flows.from t from w_at other.part leads')
              (behind_at right.aim x v (suc k) right.flows.to s to v_at part leads);
          parts = λ n v w p q s t leads leads' inner inner' p_at q_at.
              one_code.parameter_parts n k t s (part_behind_at n right.origin other.y w q (suc k) right.flows.from t from q_at other.part leads' inner')
              (part_behind_at n right.aim x v p (suc k) right.flows.to s to p_at part leads inner);
        }

    -- where a part of the one function is a pointer, that of the other is
    pointer_of_code : (j : ℕ) → HasPointer program (Of program (target program a) (Field j)) → HasPointer program (Of program (code program g) (Field j))
    pointer_of_code j has =
        let other = partner right.aim right.origin has.0 j (labelled program labels es ok right.flows.from right.origin right.flows.from_at) (back table.types alike) (of_target j has.0 has.1) in
        (other.y, (right.origin, right.place, other.part), pointer_too table ok.table (ty has.0) (ty other.y) has.2.0 other.same has.2.1)

    pointer_of_target : (j : ℕ) → HasPointer program (Of program (code program g) (Field j)) → HasPointer program (Of program (target program a) (Field j))
    pointer_of_target j has =
        let other = partner right.origin right.aim has.0 j (labelled program labels es ok right.flows.to right.aim right.flows.to_at) alike (of_function j has.0 has.1) in
        (other.y, (right.aim, aimed, other.part), pointer_too table ok.table (ty has.0) (ty other.y) has.2.0 other.same has.2.1)

    -- what the function gives, what the operand points to gives
    pub through_results : (v : Value) → IsRight program labels es homes v (Of program (code program g) (Field 0)) [] → IsRight program labels es homes v (Of program (target program a) (Field 0)) d
    through_results = moved program labels es ok (Of program (code program g) (Field 0)) (Of program (target program a) (Field 0)) [] d result_beside (pointer_of_code 0) homes

    -- what what the operand points to takes, the function takes
    pub through_parameters : (k : ℕ) (v : Value) → IsRight program labels es homes v (Of program (target program a) (Field (suc k))) d →
        IsRight program labels es homes v (Of program (code program g) (Field (suc k))) []
    through_parameters k = moved program labels es ok (Of program (target program a) (Field (suc k))) (Of program (code program g) (Field (suc k))) d [] (parameter_beside k) (pointer_of_target (suc k)) homes
