-- The fields and the Parts of labels that edges join.
use Rattle.std.proofs.Common.{◌≡◌, ℕ, zero, suc, ◌<◌, ◌≤◌, ◌⊎◌, Bool, true, false, List, [], ◌∷◌, length, Some, None, Contains, inl, inr, refl, sym, ap, ◌∙◌, subst, arith}
use Rattle.std.specs.Prelude.{slice_get, unwrap_or, ◌&&◌, ◌==◌, if◌then◌else◌}
use Rattle.std.specs.List.{list_any}
use Rattle.std.specs.Option.{option_map}
use Rattle.std.proofs.lemmas.Bool.{and_parts, cases_lt, eqb-true, false≢true}
use Rattle.std.proofs.lemmas.List.Folds.{Any-from_list_any}
use Rattle.std.proofs.lemmas.Option.{none-some, same_Some, slice_get-get_or, slice_get_within}
use Rattle.lk_facts.specs.EdgeRules.{IsBehind, IsInside, Of}
use Rattle.lk_facts.specs.LabelRules.{IsPart, Steps, form_of, is_function}
use Rattle.lk_facts.specs.Paths.{opposite}
use Rattle.lk_facts.specs.declared.edge.Edge.{Edge}
use Rattle.lk_facts.specs.declared.edge.Mark.{Mark}
use Rattle.lk_facts.specs.declared.label_entry.LabelName.{LabelName}
use Rattle.lk_facts.specs.declared.program.Program.{Program}
use Rattle.lk_types.specs.Building.{IsTable}
use Rattle.lk_types.specs.Nodes.{IsBase, Node, along, first, has_part, is_void_tag, node_of, part_of_void}
use Rattle.lk_types.specs.Table.{Table, fields_of, least_of, type_at}
use Rattle.lk_types.specs.Walks.{field}
use Rattle.lk_types.specs.declared.c_type.CType.TheVariants.{Void}
use Rattle.lk_types.specs.declared.node.Base.{Base}
use Rattle.lk_types.specs.declared.node.Base.TheVariants.{Tag}
use Rattle.lk_types.specs.declared.node.NodeId.{NodeId}
use Rattle.lk_types.specs.declared.node.Sel.TheVariants.{Target, Element, Field, Part}
use Rattle.lk_label.proofs.PartLists.{few_fields}
use Rattle.lk_flow.specs.Closing.{FieldsBoth, FunctionsBoth, InsideBoth, Next, ParametersBoth, PartsBoth, ResultsBoth, TargetsBoth}
use Rattle.lk_flow.specs.Closing.Next.{targets as next_targets, inside as next_inside, results as next_results, parameters as next_parameters}
use Rattle.lk_flow.specs.Counting.{AnyOf}
use Rattle.lk_flow.specs.Growing.{Adds, Joins}
use Rattle.lk_flow.proofs.Finders.{joins_as, joins_none, joins_two}

none_past : {X : Type 0} (xs : List X) (i : ℕ) → length xs ≤ i → slice_get xs i ≡ None
none_past [] i over = refl
none_past (x ∷ xs) zero over = absurd (omega (arith, over))
none_past (x ∷ xs) (suc i) over = none_past xs i (omega (arith, over))

module _ (table : Table) where
  field_there : {Y : Type 0} (g : Y → Node) (h : ℕ → Y) (ts : List ℕ) (k : ℕ) (n : Node) → option_map g (option_map h (slice_get ts k)) ≡ Some n → k < length ts
  field_there g h [] k n is = absurd (none-some n is)
  field_there g h (t ∷ ts) zero n is = omega arith
  field_there g h (t ∷ ts) (suc k) n is = let on = field_there g h ts k n is in omega (arith, on)

  -- a field to which a step leads is one of the type's
  pub field_within : (m n : NodeId) (k : ℕ) → Steps table m (Field k) n → k < length (fields_of table (form_of table m))
  field_within m n k steps = field_there (along (node_of table m)) (field k) (fields_of table (form_of table m)) k (node_of table n) steps.leads

  -- and there are few of these
  pub few_steps : IsTable table → (m n : NodeId) (k : ℕ) → Steps table m (Field k) n → k < 65537
  few_steps good m n k steps = elim (cases_lt (node_of table m).type (length table.types)) [
    | inl known ↦ (let few = few_fields table good (node_of table m).type known in let within = field_within m n k steps in omega (arith, few, within))
    | inr past ↦ (let within = field_within m n k steps in absurd (no_field (node_of table m).type past k within))
  ]
    where
      no_field : (t : ℕ) → length table.types ≤ t → (j : ℕ) → j < length (fields_of table (type_at table t)) → ⊥
      no_field t past j within =
          let none : j < 0 = subst (λ o. j < length (fields_of table (unwrap_or o Void))) (none_past table.types t past) within in
          omega (arith, none)

  part_is : (there : Bool) (u : ℕ) (y : Node) → (if there then Some (first (Tag u)) else None) ≡ Some y → (there ≡ true) × (first (Tag u) ≡ y)
  part_is true u y is = (refl, same_Some (first (Tag u)) y is)
  part_is false u y is = absurd (none-some y is)

  least_again : (n : NodeId) (base : Base) (u : ℕ) → n.base ≡ base → base ≡ Tag u → IsBase table n.base → least_of table u ≡ u
  least_again n base u at is known = (subst (IsBase table) (at ∙ is) known).1

  -- the Part of a type is that of the least type that is equal to it
  pub least_part : (m n : NodeId) (t : ℕ) → Steps table m (Part t) n → Contains table.parts (least_of table t) × Steps table m (Part (least_of table t)) n
  least_part m n t steps =
      let there = part_is (is_void_tag table m.base && has_part table t) (least_of table t) (node_of table n) steps.leads in
      let both = and_parts (is_void_tag table m.base) (has_part table t) there.0 in
      let one = Any-from_list_any (λ u. u == least_of table t) table.parts both.1 in
      let least : one.1 ≡ least_of table t = eqb-true one.1 (least_of table t) one.4 in
      let again : least_of table (least_of table t) ≡ least_of table t = least_again n n.base (least_of table t) refl (ap (λ (k : Node). k.base) (sym there.1)) steps.node.base in
      let same : part_of_void table m.base (least_of table t) ≡ part_of_void table m.base t = ap (λ u. if is_void_tag table m.base && list_any (λ v. v == u) table.parts then Some (first (Tag u)) else None) again in
      (subst (Contains table.parts) least (one.0, one.2, one.3), record { node = steps.node; leads = same ∙ steps.leads })

module _ (program : Program) (names : List LabelName) where
  -- the fields that are joined are among those of the first label
  pub fields_below : (u v : LabelName) (m : Mark) (k : ℕ) (x y : LabelName) (n : Mark) → FieldsBoth program u v m k x y n → k < length (fields_of program.types (form_of program.types u.node))
  fields_below u v m k x y n is = field_within program.types u.node x.node k is.1.part.steps

  pub parameters_below : (u v : LabelName) (m : Mark) (k : ℕ) (x y : LabelName) (n : Mark) → ParametersBoth program u v m k x y n → suc k < length (fields_of program.types (form_of program.types u.node))
  parameters_below u v m k x y n is = field_within program.types u.node is.2.points.0.node (suc k) is.2.points.1.steps

  pub parts_below : (u v : LabelName) (m : Mark) (k : ℕ) (x y : LabelName) (n : Mark) → PartsBoth program u v m k x y n → k < length program.types.parts
  parts_below u v m k x y n is = slice_get_within program.types.parts k is.0 is.1

  pub part_put : (u v : LabelName) (m : Mark) (k t : ℕ) (old new : List Edge) → slice_get program.types.parts k ≡ Some t → Adds (Joins names (InsideBoth program u v m (Part t))) old new → Adds (Joins names (PartsBoth program u v m k)) old new
  part_put u v m k t old new at adds =
      joins_as names (InsideBoth program u v m (Part t)) (PartsBoth program u v m k) old new (λ x y n is. (t, at, is)) (λ x y n is. subst (λ w. InsideBoth program u v m (Part w) x y n) (same_Some is.0 t (sym is.1 ∙ at)) is.2) adds

  -- where one end is no function nothing is joined
  pub no_code : (u v : LabelName) (m : Mark) (es : List Edge) → (is_function (form_of program.types u.node) ≡ false) ⊎ (is_function (form_of program.types v.node) ≡ false) → Adds (Joins names (FunctionsBoth program u v m)) es es
  no_code u v m es none = joins_none names (FunctionsBoth program u v m) es (λ x y n is. elim is [
    | inl both ↦ neither both.1.function both.2.function
    | inr any ↦ neither any.1.2.function any.1.1.function
  ])
    where
      neither : is_function (form_of program.types u.node) ≡ true → is_function (form_of program.types v.node) ≡ true → ⊥
      neither one other = elim none [
        | inl isnt ↦ false≢true (sym isnt ∙ one)
        | inr isnt ↦ false≢true (sym isnt ∙ other)
      ]

  -- of functions, what their results and parameters point to
  behind_both : (u v : LabelName) (k : ℕ) (x y : LabelName) → is_function (form_of program.types u.node) ≡ true → is_function (form_of program.types v.node) ≡ true → Of program (IsPart program u (Field k)) Target x → Of program (IsPart program v (Field k)) Target y → IsBehind program u k x × IsBehind program v k y
  behind_both u v k x y code_u code_v one other = (record { function = code_u; points = one }, record { function = code_v; points = other })

  pub results_put : (u v : LabelName) (m : Mark) (old new : List Edge) → is_function (form_of program.types u.node) ≡ true → is_function (form_of program.types v.node) ≡ true →
      Adds (Joins names (λ x y n. (n ≡ m) × Of program (IsPart program u (Field 0)) Target x × Of program (IsPart program v (Field 0)) Target y)) old new → Adds (Joins names (ResultsBoth program u v m)) old new
  results_put u v m old new code_u code_v adds =
      joins_as names (λ x y n. (n ≡ m) × Of program (IsPart program u (Field 0)) Target x × Of program (IsPart program v (Field 0)) Target y) (ResultsBoth program u v m) old new
      (λ x y n is. (let both = behind_both u v 0 x y code_u code_v is.1 is.2 in (is.0, both.0, both.1))) (λ x y n is. (is.0, is.1.points, is.2.points)) adds

  pub parameters_put : (u v : LabelName) (m : Mark) (k : ℕ) (old new : List Edge) → is_function (form_of program.types u.node) ≡ true → is_function (form_of program.types v.node) ≡ true →
      Adds (Joins names (λ x y n. (n ≡ opposite m) × Of program (IsPart program v (Field (suc k))) Target x × Of program (IsPart program u (Field (suc k))) Target y)) old new → Adds (Joins names (ParametersBoth program u v m k)) old new
  parameters_put u v m k old new code_u code_v adds =
      joins_as names (λ x y n. (n ≡ opposite m) × Of program (IsPart program v (Field (suc k))) Target x × Of program (IsPart program u (Field (suc k))) Target y) (ParametersBoth program u v m k) old new
      (λ x y n is. (let both = behind_both v u (suc k) x y code_v code_u is.1 is.2 in (is.0, both.0, both.1))) (λ x y n is. (is.0, is.1.points, is.2.points)) adds

  -- what follows from an edge, in the order in which it is put
  abbrev InPlaces : (u v : LabelName) → Mark → LabelName → LabelName → Mark → Type 0
  InPlaces u v m x y n = TargetsBoth program u v m x y n ⊎ InsideBoth program u v m Element x y n

  abbrev InMembers : (u v : LabelName) → Mark → LabelName → LabelName → Mark → Type 0
  InMembers u v m x y n = InPlaces u v m x y n ⊎ AnyOf (FieldsBoth program u v m) x y n

  abbrev InParts : (u v : LabelName) → Mark → LabelName → LabelName → Mark → Type 0
  InParts u v m x y n = AnyOf (PartsBoth program u v m) x y n ⊎ FunctionsBoth program u v m x y n

  pub all_next : (u v : LabelName) (m : Mark) (a b c d e f : List Edge) → Adds (Joins names (TargetsBoth program u v m)) a b → Adds (Joins names (InsideBoth program u v m Element)) b c → Adds (Joins names (AnyOf (FieldsBoth program u v m))) c d →
      Adds (Joins names (AnyOf (PartsBoth program u v m))) d e → Adds (Joins names (FunctionsBoth program u v m)) e f → Adds (Joins names (Next program u v m)) a f
  all_next u v m a b c d e f targets elements fields parts functions =
      let places = joins_two names (TargetsBoth program u v m) (InsideBoth program u v m Element) a b c targets elements in
      let members = joins_two names (InPlaces u v m) (AnyOf (FieldsBoth program u v m)) a c d places fields in
      let rest = joins_two names (AnyOf (PartsBoth program u v m)) (FunctionsBoth program u v m) d e f parts functions in
      joins_as names (λ x y n. InMembers u v m x y n ⊎ InParts u v m x y n) (Next program u v m) a f there back (joins_two names (InMembers u v m) (InParts u v m) a d f members rest)
    where
      there : (x y : LabelName) (n : Mark) → InMembers u v m x y n ⊎ InParts u v m x y n → Next program u v m x y n
      there x y n (inl (inl (inl is))) = next_targets is
      there x y n (inl (inl (inr is))) = next_inside Element is
      there x y n (inl (inr (k, is))) = next_inside (Field k) is
      there x y n (inr (inl (k, (t, at, is)))) = next_inside (Part t) is
      there x y n (inr (inr (inl is))) = next_results is
      there x y n (inr (inr (inr (k, is)))) = next_parameters k is

      back : (x y : LabelName) (n : Mark) → Next program u v m x y n → InMembers u v m x y n ⊎ InParts u v m x y n
      back x y n (next_targets is) = inl (inl (inl is))
      back x y n (next_inside Target is) = absurd (false≢true is.1.inside)
      back x y n (next_inside Element is) = inl (inl (inr is))
      back x y n (next_inside (Field k) is) = inl (inr (k, is))
      back x y n (next_inside (Part t) is) =
          let one = least_part program.types u.node x.node t is.1.part.steps in
          let other = least_part program.types v.node y.node t is.2.part.steps in
          let at = slice_get-get_or program.types.parts one.0.0 (least_of program.types t) one.0.1 ∙ ap Some one.0.2 in
          let inside_u : IsInside program u (Part (least_of program.types t)) x = record { inside = refl; part = record { holder = is.1.part.holder; steps = one.1 } } in
          let inside_v : IsInside program v (Part (least_of program.types t)) y = record { inside = refl; part = record { holder = is.2.part.holder; steps = other.1 } } in
          inr (inl (one.0.0, (least_of program.types t, at, (is.0, inside_u, inside_v))))
      back x y n (next_results is) = inr (inr (inl is))
      back x y n (next_parameters k is) = inr (inr (inr (k, is)))
