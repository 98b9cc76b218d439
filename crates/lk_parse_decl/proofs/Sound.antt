-- What the readers of initialisers and declarations read is of their form.
use Rattle.std.proofs.Common.{◌≡◌, ℕ, zero, suc, min, max, Bool, true, false, not, List, [], ◌∷◌, ◌++◌, refl, sym, ap, subst, ◌∙◌, arith}
use Rattle.lk_lex.specs.declared.token.TokenKind.TheVariants as k
use Rattle.lk_lex.specs.declared.punct.Punct.TheVariants as p
use Rattle.lk_tree.specs.declared.expression.Declarator.{Declarator}
use Rattle.lk_tree.specs.declared.expression.Specifier.{Specifier}
use Rattle.lk_tree.specs.declared.declaration.InitDeclarator.{InitDeclarator}
use Rattle.lk_tree.specs.declared.declaration.Init.{Init}
use Rattle.lk_tree.specs.declared.declaration.Entry.{Entry}
use Rattle.lk_tree.specs.declared.declaration.Designator.{Designator}
use Rattle.lk_parse_expr.specs.declared.found.Found.{Found}
use Rattle.lk_parse_expr.specs.declared.naming.Naming.TheVariants as naming
use Rattle.lk_parse_expr.specs.declared.naming.Head.{Head}
use Rattle.lk_parse_expr.specs.Input.{Input, peek, here, next}
use Rattle.lk_parse_expr.specs.Words.{is_close_brace}
use Rattle.lk_parse_expr.specs.Heads.{declare_head}
use Rattle.lk_parse_expr.specs.Readers.{same_punct, Parser, and_then, exhausted, sees, found, left, separated, repeat}
use Rattle.lk_parse_expr.specs.Grammar.{ReadsDeclarator}
use Rattle.lk_parse_expr.specs.Declarations as g
use Rattle.lk_parse_expr.specs.Declarations.{ReadsDesignator, ReadsDesignators, ReadsInit, ReadsEntries, ReadsEntry, ReadsInitDeclarator, ReadsInitDeclarators, ReadsDeclare, list_at}
use Rattle.lk_parse_expr.specs.Reading.{readers, specifiers, comma_if_any}
use Rattle.lk_parse_expr.proofs.Steps.{seen}
use Rattle.lk_parse_expr.proofs.Lists.{Row, row_last, row_more}
use Rattle.lk_parse_expr.proofs.Yielding.{Yields, and_yields, weaker, by_test, after_need, after_expect, after_word, Has}
use Rattle.lk_parse_expr.proofs.Sound.{HasRow, separated_has, more_row, repeat_has}
use Rattle.lk_parse_expr.proofs.SoundExpr.{one_expr}
use Rattle.lk_parse_expr.proofs.SoundParts.{IsList, specifiers_has}
use Rattle.lk_parse_expr.proofs.Sounds.{sounds}
use Rattle.lk_parse_decl.specs.Reading.{begins_designator, designator, designators, entry, braced, braced_end, init_from, initialiser, initialised, init_declarator, declarators, declarators_behind, after_first, declare_from, declare_end, declaration}

-- designators so far: none where nothing was read, else a list of them
abbrev SoFar : Input → ℕ → List Designator → Input → Type 0
SoFar from d [] i = (d ≡ 0) × (i ≡ from)
SoFar from d (one ∷ others) i = ReadsDesignators d (one ∷ others) from i

designators_on : (from : Input) (d h : ℕ) (list : List Designator) (one : Designator) (i j : Input) → ReadsDesignators d list from i → ReadsDesignator h one i j → ReadsDesignators (max d h) (list ++ one ∷ []) from j
designators_on from d h list one i j (g.designators_last first) so = g.designators_more first (g.designators_last so)
designators_on from d h list one i j (g.designators_more {g = d2} {h = h2} {first} {others} before more) so =
    let e : max d2 (max h2 h) ≡ max (max d2 h2) h = omega arith in
    subst (λ n. ReadsDesignators n (first ∷ (others ++ one ∷ [])) from j) e (g.designators_more before (designators_on _ h2 h others one i j more so))

so_far : (from : Input) (d h : ℕ) (list : List Designator) (one : Designator) (i j : Input) → SoFar from d list i → ReadsDesignator h one i j → SoFar from (max d h) (list ++ one ∷ []) j
so_far from d h [] one i j so first = let e : h ≡ max d h = let none = so.0 in omega arith in
    subst (λ n. ReadsDesignators n (one ∷ []) from j) e (subst (λ a. ReadsDesignators h (one ∷ []) a j) so.1 (g.designators_last first))
so_far from d h (first ∷ others) one i j so next_ = designators_on from d h (first ∷ others) one i j so next_

no_equal : (i : Input) → begins_designator i ≡ true → peek i ≡ k.Punct p.Equal → ⊥
unfolding sees same_punct
no_equal i e is = let f : begins_designator i ≡ false = rw is refl in let g : true ≡ false = sym e ∙ f in cc

row_entries : {h : ℕ} {list : List Entry} {from rest : Input} → Row ReadsEntry h list from rest → ReadsEntries h list from rest
row_entries (row_last one) = g.entries_last one
row_entries (row_more one is others) = g.entries_more one is (row_entries others)

row_entries_comma : {h : ℕ} {list : List Entry} {from rest : Input} → Row ReadsEntry h list from rest → peek rest ≡ k.Punct p.Comma → peek (next rest) ≡ k.Punct p.CloseBrace
    → ReadsEntries h list from (next rest)
row_entries_comma (row_last one) is so = g.entries_comma one is so
row_entries_comma (row_more one also others) is so = g.entries_more one also (row_entries_comma others is so)

row_declarators : {typedef : Bool} {h : ℕ} {list : List InitDeclarator} {from rest : Input} → Row (ReadsInitDeclarator typedef) h list from rest → ReadsInitDeclarators typedef h list from rest
row_declarators (row_last one) = g.declarators_last one
row_declarators (row_more one is others) = g.declarators_more one is (row_declarators others)

pub record InitsHave (m : ℕ) (below : Parser (Found Init)) : Type 0 where
  pub has : (from : Input) → Yields (Has m (λ h value rest. ReadsInit h value from rest)) (below from)

module _ (m : ℕ) (below : Parser (Found Init)) (sound : InitsHave m below) where
  designator_has : (i : Input) → Yields (Has m (λ h one rest. ReadsDesignator h one i rest)) (designator m below i)
  unfolding designator
  designator_has i = by_test _ (sees p.Dot i) _ _
      (λ e. after_word _ (next i) _ (λ so. record { depth = 0; reads = g.designator_member (seen p.Dot i e) so; all = omega arith }))
      (λ e. after_expect _ p.OpenBracket i _ (λ is. and_yields _ _ ((readers m).expr 2 (next i)) _ (one_expr m (readers m) (sounds m) 2 (next i) (omega arith)) (λ at j has.
      after_expect _ p.CloseBracket j _ (λ so. record { depth = has.depth; reads = g.designator_index is has.reads so; all = has.all }))))

  -- designators before an initialiser at this place
  abbrev Designated : Input → ℕ → List Designator → Input → Type 0
  Designated from d [] rest = (d ≡ 0) × (rest ≡ from)
  Designated from d (one ∷ others) rest = (mid : Input) × ReadsDesignators d (one ∷ others) from mid × (peek mid ≡ k.Punct p.Equal) × (rest ≡ next mid)

  behind_equal : (from mid : Input) (d : ℕ) (list : List Designator) → begins_designator from ≡ true → peek mid ≡ k.Punct p.Equal → SoFar from d list mid → Designated from d list (next mid)
  behind_equal from mid d [] begins is so = absurd (no_equal from begins (ap peek (sym so.1) ∙ is))
  behind_equal from mid d (one ∷ others) begins is so = (mid, so, is, refl)

  designators_has : (from : Input) → Yields (Has m (Designated from)) (designators m below from)
  unfolding designators
  designators_has from = by_test _ (begins_designator from) _ _
      (λ e. and_yields (Has m (SoFar from)) _ (repeat (λ i. not (begins_designator i)) (designator m below) (found [] m) from) _
      (repeat_has m ReadsDesignator (SoFar from) (λ i. not (begins_designator i)) (designator m below) designator_has (so_far from) from 0 m [] (refl, refl) (omega arith))
      (λ list mid has. after_expect _ p.Equal mid _ (λ is. record { depth = has.depth; reads = behind_equal from mid has.depth list.tree e is has.reads; all = has.all })))
      (λ e. record { depth = 0; reads = (refl, refl); all = omega arith })

  entry_of : (from mid rest : Input) (d h n : ℕ) (list : List Designator) (value : Init) → Designated from d list mid → ReadsInit h value mid rest → max d h ≡ n
      → ReadsEntry n (record { designators = list; init = value }) from rest
  entry_of from mid rest d h n [] value so reads e = let f : h ≡ n = let none = so.0 in omega arith in
      subst (λ n. ReadsEntry n (record { designators = []; init = value }) from rest) f (subst (λ a. ReadsEntry h (record { designators = []; init = value }) a rest) so.1 (g.entry_plain reads))
  entry_of from mid rest d h n (one ∷ others) value so reads e =
      subst (λ n. ReadsEntry n (record { designators = one ∷ others; init = value }) from rest) e (g.entry_designated so.1 so.2 (subst (λ a. ReadsInit h value a rest) so.3 reads))

  entry_has : (from : Input) → Yields (Has m (λ h one rest. ReadsEntry h one from rest)) (entry m below from)
  unfolding entry
  entry_has from = and_yields (Has m (Designated from)) _ (designators m below from) _ (designators_has from) (λ list mid has.
      and_yields _ _ (below mid) _ (sound.has mid) (λ value rest more.
      record {
        depth = max has.depth more.depth;
        reads = entry_of from mid rest has.depth more.depth (max has.depth more.depth) list.tree value.tree has.reads more.reads refl;
        all = (let a = has.all in let b = more.all in omega arith);
      }))

  abbrev IsInit : Input → Found Init → Input → Type 0
  IsInit from f rest = Has (suc m) (λ h value rest. ReadsInit h value from rest) f rest

  braced_end_has : (from : Input) (list : Found (List Entry)) (mid : Input) → peek from ≡ k.Punct p.OpenBrace → HasRow m ReadsEntry is_close_brace (next from) list mid → Yields (IsInit from) (braced_end (here from) list mid)
  unfolding comma_if_any
  braced_end_has from list mid is has = by (sees p.Comma mid) refl
    where
      by : (b : Bool) → sees p.Comma mid ≡ b → Yields (IsInit from) (braced_end (here from) list mid)
      by true e = rw e (after_expect _ p.CloseBrace (next mid) _ (λ so.
          record { depth = _; reads = g.init_list is (row_entries_comma has.row (seen p.Comma mid e) so) so; all = (let a = has.all in omega arith) }))
      by false e = rw e (after_expect _ p.CloseBrace mid _ (λ so. record { depth = _; reads = g.init_list is (row_entries has.row) so; all = (let a = has.all in omega arith) }))

  init_has : (from : Input) → Yields (IsInit from) (init_from m below (here from) from)
  unfolding init_from braced
  init_has from = by_test _ (sees p.OpenBrace from) _ _
      (λ e. after_need _ 1 m from _ (λ some. and_yields (HasRow m ReadsEntry is_close_brace (next from)) _ (separated is_close_brace (entry m below) m (next from)) _
      (separated_has m ReadsEntry is_close_brace (entry m below) entry_has (next from)) (λ list mid has. braced_end_has from list mid (seen p.OpenBrace from e) has)))
      (λ e. and_yields _ _ ((readers (suc m)).expr 1 from) _ (one_expr (suc m) (readers (suc m)) (sounds (suc m)) 1 from (omega arith)) (λ value i has.
      record { depth = has.depth; reads = g.init_expr has.reads; all = has.all }))

nothing : {A : Type 0} (Q : A → Input → Type 0) (begins : Bool) (i : Input) → Yields Q (exhausted begins i)
nothing Q true i = tt
nothing Q false i = tt

pub inits_have : (m : ℕ) → InitsHave m (initialiser m)
unfolding initialiser
inits_have zero = record { has = λ from. nothing _ _ from }
inits_have (suc m) = record { has = init_has m (initialiser m) (inits_have m) }

module _ (m : ℕ) (typedef : Bool) where
  -- the rest of a declarator, behind the first part
  initialised_has : (from mid : Input) (one : Found (Declarator × Head)) → Has m (λ h one rest. ReadsDeclarator naming.Named 0 h one.0 one.1 from rest) one mid
      → Yields (Has m (λ h one rest. ReadsInitDeclarator typedef h one from rest)) (initialised m typedef one mid)
  unfolding initialised
  initialised_has from mid one has = by_test _ (sees p.Equal mid) _ _
      (λ e. and_yields _ _ (initialiser m (next (declare_head one.tree.1 typedef mid))) _ ((inits_have m).has (next (declare_head one.tree.1 typedef mid))) (λ value i more.
      record { depth = _; reads = g.initialised has.reads (seen p.Equal mid e) more.reads; all = (let a = has.all in let b = more.all in omega arith) }))
      (λ e. record { depth = has.depth; reads = g.plain has.reads; all = has.all })

  init_declarator_has : (from : Input) → Yields (Has m (λ h one rest. ReadsInitDeclarator typedef h one from rest)) (init_declarator m typedef from)
  unfolding init_declarator
  init_declarator_has from = and_yields _ _ ((readers m).declarator naming.Named from) _ ((sounds m).declarator naming.Named from) (λ one mid has. initialised_has from mid one has)

  pub behind_has : (from mid : Input) (one : Found (Declarator × Head)) → Has m (λ h one rest. ReadsDeclarator naming.Named 0 h one.0 one.1 from rest) one mid
      → Yields (Has m (λ h list rest. ReadsInitDeclarators typedef h list from rest)) (declarators_behind m typedef one mid)
  unfolding declarators_behind after_first
  behind_has from mid one has = and_yields _ _ (initialised m typedef one mid) _ (initialised_has from mid one has) (λ first i more. by_test _ (sees p.Comma i) _ _
      (λ e. weaker (HasRow m (ReadsInitDeclarator typedef) (λ _. false) from) _ _ (λ f rest row. record { depth = row.depth; reads = row_declarators row.row; all = row.all })
      (more_row m (ReadsInitDeclarator typedef) (λ _. false) (init_declarator m typedef) init_declarator_has (left i) from i more.depth (min m first.room) (first.tree ∷ []) (row_last more.reads)
      (let a = more.all in omega arith) (seen p.Comma i e)))
      (λ e. record { depth = more.depth; reads = g.declarators_last more.reads; all = (let a = more.all in omega arith) }))

declare_has : (m : ℕ) (from : Input) → Yields (Has (suc m) (λ h one rest. ReadsDeclare h one from rest)) (declare_from m (here from) from)
unfolding declare_from declarators
declare_has m from = and_yields (IsList m (readers m) (sounds m) from) _ (specifiers m (readers m) from) _ (specifiers_has m (readers m) (sounds m) from) (λ first mid has. by first mid has (sees p.Semicolon mid) refl)
  where
    by : (first : Found (List Specifier × Bool)) (mid : Input) → IsList m (readers m) (sounds m) from first mid → (b : Bool) → sees p.Semicolon mid ≡ b
        → Yields (Has (suc m) (λ h one rest. ReadsDeclare h one from rest)) (and_then (declarators m first.tree.1 mid) (declare_end (here from) first))
    by first mid has true e = rw e (after_expect _ p.Semicolon mid _ (λ so. record { depth = _; reads = g.declare_none has.reads so; all = (let a = has.all in omega arith) }))
    by first mid has false e = rw e (and_yields (HasRow m (ReadsInitDeclarator first.tree.1) (λ _. false) mid) _ (separated (λ _. false) (init_declarator m first.tree.1) m mid) _
        (separated_has m (ReadsInitDeclarator first.tree.1) (λ _. false) (init_declarator m first.tree.1) (init_declarator_has m first.tree.1) mid) (λ list i more. after_expect _ p.Semicolon i _ (λ so.
        record { depth = _; reads = g.declare_some has.reads (row_declarators more.row) so; all = (let a = has.all in let b = more.all in omega arith) })))

pub declarations_have : (m : ℕ) (from : Input) → Yields (Has m (λ h one rest. ReadsDeclare h one from rest)) (declaration m from)
unfolding declaration
declarations_have zero from = nothing _ _ from
declarations_have (suc m) from = declare_has m from
