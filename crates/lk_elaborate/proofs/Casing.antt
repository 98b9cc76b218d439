-- The cases that are found of a switch are those of its statement.
use Rattle.std.proofs.Common.{◌≡◌, ◌∙◌, ◌++◌, ℕ, ℤ, Option, Some, None, List, [], ◌∷◌, refl, sym, ap, subst, append_assoc}
use Rattle.std.specs.Option.{option_map}
use Rattle.std.proofs.lemmas.List.{append-nil}
use Rattle.std.proofs.lemmas.Option.{none-some}
use Rattle.lk_base.specs.declared.kind.Kind.{Kind}
use Rattle.lk_tree.specs.declared.declaration.Declare.{Declare}
use Rattle.lk_tree.specs.declared.expression.Expr.{Expr}
use Rattle.lk_tree.specs.declared.statement.BlockItem.{BlockItem, out-BlockItem}
use Rattle.lk_tree.specs.declared.statement.BlockItem.TheOpen.{BlockItem-F, StmtForm-F}
use Rattle.lk_tree.specs.declared.statement.ForFirst.{ForFirst}
use Rattle.lk_tree.specs.declared.statement.Stmt.{Stmt}
use Rattle.lk_tree.specs.declared.statement.StmtForm.{StmtForm, out-StmtForm}
use Rattle.lk_typed.specs.Addresses.{value}
use Rattle.lk_typed.specs.Env.{Env, Name, AsOperand, as_operand, enter, extend}
use Rattle.lk_typed.specs.Expressions.{expression, expr_adds}
use Rattle.lk_typed.specs.Meaning.{meaning_of}
use Rattle.lk_typed.specs.Nodes.{AStatement, AnExpression, at}
use Rattle.lk_typed.specs.Parts.{added_by, behind, behind_inner, first_adds, first_part, item_adds, item_around, item_part, items_in_turn, perhaps, statement_parts}
use Rattle.lk_typed.specs.StatementRules as spec
use Rattle.lk_typed.specs.StatementRules.{case_value, in_body_of_loop}
use Rattle.lk_typed.specs.Statements.{Case, StmtTold, kind_in, or_nothing, statement}
use Rattle.lk_typed.specs.Ty.{Ty, kind_of}
use Rattle.lk_typed.specs.TypedStatements.{AreCases, IsDefault}
use Rattle.lk_typed.specs.Typing.{Typing, constant_in}
use Rattle.lk_typed.specs.declared.constant.Constant.{Constant}
use Rattle.lk_typed.specs.declared.statement.SwitchCase.{SwitchCase}
use Rattle.lk_typed.specs.declared.typed.Typed.{Typed}
use Rattle.lk_rules.proofs.Stating.{statements_follow_their_forms}
use Rattle.lk_rules.specs.Statements.{item_told, items_told, told_of}
use Rattle.lk_elaborator.specs.Known.{HasTyping, HasValue, OfEach}
use Rattle.lk_elaborator.specs.declared.elaborator.Elaborator.{Elaborator}
use Rattle.lk_elaborate.proofs.Carried.{head_stands, parts_stand, rest_stand, tail_stands}
use Rattle.lk_elaborate.proofs.Making.{true_there}
use Rattle.lk_elaborate.specs.Making.{FindsCases, FindsSwitch, HasCases, IsCaseOf, IsConstantOf, IsKindOf, PutsCases, PutsOf, PutsOfCase, PutsOfChoice, PutsOfDefault, PutsOfElse, PutsOfForm, PutsOfItem, PutsOfItems, StandIn}
use Rattle.lk_elaborate.specs.declared.cases.Cases.{Cases}

-- ---- the kind of the switch

abbrev value_in : Option Typing → Option Ty
value_in None = None
value_in (Some typing) = Some (value typing).type

operand_env : (env : Env) → env.role ≡ AsOperand → as_operand env ≡ env
operand_env env is = ap (λ r. record env { role = r }) (sym is)

pub kind_is : (walk : Elaborator) (e : Expr) (v : Typed) (kind : Option Kind) → OfEach walk e.ordinal (λ p. HasValue walk.types p v) → kind ≡ kind_of (meaning_of walk.types v.ty) → IsKindOf walk e kind
kind_is walk e v kind has is env role stands =
    let h = has (env, e) refl (true_there walk env e stands) in
    ap (λ (here : Env). kind_in (value_in (expression e here).typing)) (operand_env env role) ∙ (ap (λ x. kind_in (value_in x)) h.found ∙ (ap kind_of (sym h.is.type) ∙ sym is))

pub switch_found : (walk : Elaborator) (e : Expr) (inner : Stmt) (kind : Option Kind) (found : Cases) → IsKindOf walk e kind → FindsCases walk kind inner found → FindsSwitch walk e inner found
switch_found walk e inner kind found is finds env behind around role inner_role stands inner_stands =
    subst (λ k. HasCases k inner behind found) (sym (is env role stands)) (finds behind around inner_role inner_stands)

-- ---- one case

pub constant_is : (walk : Elaborator) (e : Expr) (typing : Typed) → OfEach walk e.ordinal (λ p. HasTyping walk.types p typing) → IsConstantOf walk e typing.constant
constant_is walk e typing has env role stands =
    let h = has (env, e) refl (true_there walk env e stands) in
    ap (λ (here : Env). constant_in (expression e here).typing) (operand_env env role) ∙ (ap constant_in h.found ∙ ap Some (sym h.is.constant))

pub case_is : (walk : Elaborator) (kind : Option Kind) (e : Expr) (n : ℕ) (c : Constant) (z : ℤ) (found : SwitchCase) → IsConstantOf walk e c → case_value kind (Some c) ≡ Some z → found.value ≡ z →
    found.ordinal ≡ n → IsCaseOf walk kind e n found
case_is walk kind e n c z found has is value_is number env role stands = record { value = ap (case_value kind) (has env role stands) ∙ (is ∙ ap Some (sym value_is)); ordinal = number }

-- ---- cases behind others

module _ (kind : Option Kind) where
  cases_join : {xs ys : List Case} {us vs : List SwitchCase} → AreCases kind xs us → AreCases kind ys vs → AreCases kind (xs ++ ys) (us ++ vs)
  cases_join AreCases.no_more others = others
  cases_join (AreCases.next value is number rest) others = AreCases.next value is number (cases_join rest others)

  pub puts_nothing : (told : StmtTold) (a : Cases) → told.cases ≡ [] → told.defaults ≡ [] → PutsCases kind told a a
  puts_nothing told a cases defaults = record {
    added = [];
    cases = sym (append-nil a.cases);
    are = subst (λ cs. AreCases kind cs []) (sym cases) AreCases.no_more;
    default = λ before is. subst (λ ds. IsDefault ds a.default) (sym (ap (λ ds. before ++ ds) defaults ∙ append-nil before)) is;
  }

  -- what tells the same cases
  pub puts_same : (told other : StmtTold) (a b : Cases) → other.cases ≡ told.cases → other.defaults ≡ told.defaults → PutsCases kind told a b → PutsCases kind other a b
  puts_same told other a b cases defaults puts = record {
    added = puts.added;
    cases = puts.cases;
    are = subst (λ cs. AreCases kind cs puts.added) (sym cases) puts.are;
    default = λ before is. subst (λ ds. IsDefault (before ++ ds) b.default) (sym defaults) (puts.default before is);
  }

  -- two statements, the second behind the first
  pub puts_then : (first second told : StmtTold) (a b c : Cases) → told.cases ≡ first.cases ++ second.cases → told.defaults ≡ first.defaults ++ second.defaults →
      PutsCases kind first a b → PutsCases kind second b c → PutsCases kind told a c
  puts_then first second told a b c cases defaults one other = record {
    added = one.added ++ other.added;
    cases = other.cases ∙ (ap (λ cs. cs ++ other.added) one.cases ∙ append_assoc a.cases one.added other.added);
    are = subst (λ cs. AreCases kind cs (one.added ++ other.added)) (sym cases) (cases_join one.are other.are);
    default = λ before is.
        subst (λ ds. IsDefault ds c.default) (append_assoc before first.defaults second.defaults ∙ ap (λ ds. before ++ ds) (sym defaults)) (other.default (before ++ first.defaults) (one.default before is));
  }

  pub found_of_puts : (told : StmtTold) (a b : Cases) → a.cases ≡ [] → a.default ≡ None → PutsCases kind told a b → AreCases kind told.cases b.cases × IsDefault told.defaults b.default
  found_of_puts told a b cases default puts = (
    subst (AreCases kind told.cases) (sym (puts.cases ∙ ap (λ cs. cs ++ puts.added) cases)) puts.are,
    puts.default [] (subst (IsDefault []) (sym default) IsDefault.none),
  )

module _ (walk : Elaborator) (kind : Option Kind) where
  pub found_cases : (s : Stmt) (a b : Cases) → a.cases ≡ [] → a.default ≡ None → PutsOf walk kind s a b → FindsCases walk kind s b
  found_cases s a b cases default puts env around role stands =
      let is = found_of_puts kind (statement s env) a b cases default (puts env around role stands) in
      record { cases = is.0; default = is.1 }

  -- ---- statements by their forms

  pub by_form : (s : Stmt) (f : StmtForm-F BlockItem StmtForm Stmt) (a b : Cases) → out-StmtForm s.form ≡ f → PutsOfForm walk kind f s.ordinal a b → PutsOf walk kind s a b
  by_form s f a b is puts env around role stands =
      let told = ap (λ (t : Env → StmtTold). t env) (statements_follow_their_forms s f is) in
      puts_same kind (told_of f s.ordinal env) (statement s env) a b (ap (λ t. t.cases) told) (ap (λ t. t.defaults) told)
      (puts env around role (parts_stand walk env (AStatement around s) _ (λ last. ap (statement_parts around env) is) stands))

  pub labelled : (name : Name) (inner : Stmt) (n : ℕ) (a b : Cases) → PutsOf walk kind inner a b → PutsOfForm walk kind (StmtForm-F.Label name inner) n a b
  labelled name inner n a b puts env around role stands = puts env around role stands

  pub cased : (e : Expr) (inner : Stmt) (n : ℕ) (found : SwitchCase) (a b c : Cases) → IsCaseOf walk kind e n found → b.cases ≡ a.cases ++ found ∷ [] → b.default ≡ a.default →
      PutsOf walk kind inner b c → PutsOfCase walk kind e inner n a c
  cased e inner n found a b c is cases default puts env around role stands =
      let one = is env role (head_stands walk _ _ stands) in
      let rest = puts (extend env (expr_adds e env)) _ role (tail_stands walk _ _ stands) in
      record {
        added = found ∷ rest.added;
        cases = rest.cases ∙ (ap (λ cs. cs ++ rest.added) cases ∙ append_assoc a.cases (found ∷ []) rest.added);
        are = AreCases.next one.value refl one.ordinal rest.are;
        default = λ before is_default. rest.default before (subst (IsDefault before) (sym default) is_default);
      }

  no_default : {before : List ℕ} {d : Option ℕ} → d ≡ None → IsDefault before d → before ≡ []
  no_default is IsDefault.none = refl
  no_default is IsDefault.one = absurd (none-some _ (sym is))

  pub defaulted : (inner : Stmt) (n : ℕ) (a b c : Cases) → a.default ≡ None → b.cases ≡ a.cases → b.default ≡ Some n → PutsOf walk kind inner b c → PutsOfDefault walk kind inner n a c
  defaulted inner n a b c none cases default puts env around role stands =
      let rest = puts env _ role stands in
      record {
        added = rest.added;
        cases = rest.cases ∙ ap (λ cs. cs ++ rest.added) cases;
        are = rest.are;
        default = λ before is.
            subst (λ ds. IsDefault (ds ++ n ∷ (statement inner env).defaults) c.default) (sym (no_default none is)) (rest.default (n ∷ []) (subst (IsDefault (n ∷ [])) (sym default) IsDefault.one));
      }

  pub blocked : (items : List BlockItem) (n : ℕ) (a b : Cases) → PutsOfItems walk kind items a b → PutsOfForm walk kind (StmtForm-F.Block items) n a b
  blocked items n a b puts env around role stands = puts_same kind _ _ a b refl refl (puts (enter env) around role stands)

  pub chosen : (taken : Stmt) (other : Option Stmt) (a b c : Cases) → PutsOf walk kind taken a b → PutsOfElse walk kind other b c → PutsOfChoice walk kind taken other a c
  chosen taken other a b c first second e n env around role stands =
      let one = first _ _ role (head_stands walk _ _ (tail_stands walk _ _ stands)) in
      let two = second _ _ role (tail_stands walk _ _ (tail_stands walk _ _ stands)) in
      puts_then kind (statement taken (enter (behind e env))) (or_nothing (option_map statement other) (enter (behind_inner taken (behind e env)))) (told_of (StmtForm-F.If e taken other) n env) a b c
      (ap (λ cs. (statement taken (enter (behind e env))).cases ++ cs) (append-nil _)) (ap (λ ds. (statement taken (enter (behind e env))).defaults ++ ds) (append-nil _)) one two

  pub while_turned : (e : Expr) (inner : Stmt) (n : ℕ) (a b : Cases) → PutsOf walk kind inner a b → PutsOfForm walk kind (StmtForm-F.While e inner) n a b
  while_turned e inner n a b puts env around role stands = puts_same kind _ _ a b refl refl (puts _ _ role (tail_stands walk _ _ stands))

  pub until_turned : (e : Expr) (inner : Stmt) (n : ℕ) (a b : Cases) → PutsOf walk kind inner a b → PutsOfForm walk kind (StmtForm-F.Until inner e) n a b
  until_turned e inner n a b puts env around role stands =
      puts_same kind _ _ a b (append-nil _) (append-nil _) (puts _ _ role (head_stands walk _ _ stands))

  pub no_else : (a : Cases) → PutsOfElse walk kind None a a
  no_else a env around role stands = puts_nothing kind _ a refl refl

  pub some_else : (s : Stmt) (a b : Cases) → PutsOf walk kind s a b → PutsOfElse walk kind (Some s) a b
  some_else s a b puts env around role stands = puts env around role stands

  pub for_turned : (start : ForFirst) (condition step : Option Expr) (inner : Stmt) (n : ℕ) (a b : Cases) → PutsOf walk kind inner a b →
      PutsOfForm walk kind (StmtForm-F.For start condition step inner) n a b
  for_turned start condition step inner n a b puts env around role stands =
      let here = enter env in
      let behind_first = extend here (first_adds start here) in
      let behind_condition = extend behind_first (added_by condition behind_first) in
      let behind_step = extend behind_condition (added_by step behind_condition) in
      let last = at (enter behind_step) (AStatement (in_body_of_loop around) inner) ∷ [] in
      let conditions = perhaps behind_first AnExpression condition in
      let steps = perhaps behind_condition AnExpression step in
      let there = rest_stand walk ((first_part here start ++ conditions) ++ steps) last stands in
      puts_same kind (statement inner (enter behind_step)) (told_of (StmtForm-F.For start condition step inner) n env) a b (append-nil _) (append-nil _) (puts (enter behind_step) _ role there)

-- ---- statements without cases of their own

module _ (walk : Elaborator) (kind : Option Kind) where
  pub switched : (e : Expr) (inner : Stmt) (n : ℕ) (a : Cases) → PutsOfForm walk kind (StmtForm-F.Switch e inner) n a a
  switched e inner n a env around role stands = puts_nothing kind _ a refl refl

  pub done : (e : Option Expr) (n : ℕ) (a : Cases) → PutsOfForm walk kind (StmtForm-F.Do e) n a a
  done e n a env around role stands = puts_nothing kind _ a refl refl

  pub gone : (name : Name) (n : ℕ) (a : Cases) → PutsOfForm walk kind (StmtForm-F.Goto name) n a a
  gone name n a env around role stands = puts_nothing kind _ a refl refl

  pub continued : (n : ℕ) (a : Cases) → PutsOfForm walk kind StmtForm-F.Continue n a a
  continued n a env around role stands = puts_nothing kind _ a refl refl

  pub broken : (n : ℕ) (a : Cases) → PutsOfForm walk kind StmtForm-F.Break n a a
  broken n a env around role stands = puts_nothing kind _ a refl refl

  pub returned : (e : Option Expr) (n : ℕ) (a : Cases) → PutsOfForm walk kind (StmtForm-F.Return e) n a a
  returned e n a env around role stands = puts_nothing kind _ a refl refl

-- ---- the items of a block, one after the other

module _ (walk : Elaborator) (kind : Option Kind) where
  -- the cases of the items that are left are put behind those before them
  abbrev pub ArePut : List BlockItem → List BlockItem → Cases → Cases → Type 0
  ArePut all left old now =
      (env : Env) (around : spec.Around) → env.role ≡ AsOperand → StandIn walk (items_in_turn around env all) →
      (here : Env) × (next : spec.Around) × (here.role ≡ AsOperand) × StandIn walk (items_in_turn next here left) ×
      ((new : Cases) → PutsCases kind (items_told left here) now new → PutsCases kind (items_told all env) old new)

  pub all_left : (all : List BlockItem) (a : Cases) → ArePut all all a a
  all_left all a env around role stands = (env, around, role, stands, λ new puts. puts)

  pub none_left : (all left : List BlockItem) (a b : Cases) → left ≡ [] → ArePut all left a b → PutsOfItems walk kind all a b
  none_left all left a b is were env around role stands =
      let was = were env around role stands in
      was.4 b (subst (λ is. PutsCases kind (items_told is was.0) b b) (sym is) (puts_nothing kind _ b refl refl))

  pub one_less : (all left rest : List BlockItem) (i : BlockItem) (a b c : Cases) → left ≡ i ∷ rest → PutsOfItem walk kind i b c → ArePut all left a b → ArePut all rest a c
  one_less all left rest i a b c is puts were env around role stands =
      let was = were env around role stands in
      let f = out-BlockItem i in
      let turn = ap (items_in_turn was.1 was.0) is in
      let now = subst (StandIn walk) turn was.3 in
      let first = puts was.0 was.1 was.2 (head_stands walk (item_part was.1 was.0 f) _ now) in (
        extend was.0 (item_adds f was.0),
        item_around was.1 was.0 f,
        was.2,
        tail_stands walk (item_part was.1 was.0 f) _ now,
        λ new more. was.4 new (subst (λ is. PutsCases kind (items_told is was.0) b new) (sym is)
            (puts_then kind (item_told f was.0) (items_told rest (extend was.0 (item_told f was.0).additions)) (items_told (i ∷ rest) was.0) b c new refl refl first
            (subst (λ adds. PutsCases kind (items_told rest (extend was.0 adds)) c new) (sym (same_adds f was.0)) more))),
      )
    where
      same_adds : (f : BlockItem-F BlockItem StmtForm Stmt) (env : Env) → (item_told f env).additions ≡ item_adds f env
      same_adds (BlockItem-F.Declare node) env = refl
      same_adds (BlockItem-F.Stmt inner) env = refl

  pub declaration_item : (i : BlockItem) (node : Declare) (a : Cases) → out-BlockItem i ≡ BlockItem-F.Declare node → PutsOfItem walk kind i a a
  declaration_item i node a form env around role stands =
      puts_nothing kind _ a (ap (λ f. (item_told f env).cases) form) (ap (λ f. (item_told f env).defaults) form)

  pub statement_item : (i : BlockItem) (inner : Stmt) (a b : Cases) → out-BlockItem i ≡ BlockItem-F.Stmt inner → PutsOf walk kind inner a b → PutsOfItem walk kind i a b
  statement_item i inner a b form puts env around role stands =
      subst (λ f. PutsCases kind (item_told f env) a b) (sym form) (puts env around role (subst (λ f. StandIn walk (item_part around env f ∷ [])) form stands))
