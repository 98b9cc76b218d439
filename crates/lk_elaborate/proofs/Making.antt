-- What is made of the parts of a statement makes the statement.
use Rattle.std.proofs.Common.{◌≡◌, ◌∙◌, ◌++◌, ℕ, false, Option, Some, None, List, [], ◌∷◌, inl, refl, sym, ap, subst, append_assoc}
use Rattle.std.proofs.lemmas.List.{append-nil}
use Rattle.lk_tree.specs.declared.declaration.Declare.{Declare}
use Rattle.lk_tree.specs.declared.expression.Expr.{Expr}
use Rattle.lk_tree.specs.declared.statement.BlockItem.{BlockItem, out-BlockItem}
use Rattle.lk_tree.specs.declared.statement.BlockItem.TheOpen.{BlockItem-F, StmtForm-F}
use Rattle.lk_tree.specs.declared.statement.ForFirst.{ForFirst}
use Rattle.lk_tree.specs.declared.statement.ForFirst.TheVariants as first
use Rattle.lk_tree.specs.declared.statement.Stmt.{Stmt}
use Rattle.lk_tree.specs.declared.statement.StmtForm.{StmtForm, out-StmtForm}
use Rattle.lk_typed.proofs.Meanings.{meaning_stays}
use Rattle.lk_typed.specs.Elaborated.{IsConverted}
use Rattle.lk_typed.specs.Env.{Env, Name, AsOperand, enter, extend}
use Rattle.lk_typed.specs.Labels.{Label}
use Rattle.lk_typed.specs.Meaning.{meaning, IsKnownType, IsReady}
use Rattle.lk_typed.specs.Nodes.{Placed, AStatement, AnExpression, at}
use Rattle.lk_typed.specs.Parts.{added_by, behind, first_adds, first_part, item_adds, item_around, item_part, items_in_turn, perhaps, statement_parts, to_result}
use Rattle.lk_typed.specs.Stands.{Stands}
use Rattle.lk_typed.specs.StatementRules as spec
use Rattle.lk_typed.specs.StatementRules.{behind_cases, in_body_of_loop, in_body_of_switch}
use Rattle.lk_typed.specs.Statements.{switch_kind}
use Rattle.lk_typed.specs.Tables.{Tables}
use Rattle.lk_typed.specs.TypedStatements.{AreItems, IsElse, IsFirst, IsPerhaps, IsStmt, MakesStmt}
use Rattle.lk_typed.specs.declared.expression.TypedExpr.{TypedExpr}
use Rattle.lk_typed.specs.declared.statement.LocalInit.{LocalInit}
use Rattle.lk_typed.specs.declared.statement.TypedFirst.{TypedFirst}
use Rattle.lk_typed.specs.declared.statement.TypedFirst.TheVariants as typed_first
use Rattle.lk_typed.specs.declared.statement.TypedItem.{TypedItem, out-TypedItem}
use Rattle.lk_typed.specs.declared.statement.TypedStmt.{TypedStmt}
use Rattle.lk_typed.specs.declared.statement.TypedItem.TheOpen.{TypedItem-F, TypedStmtForm-F}
use Rattle.lk_typed.specs.declared.typed.ExprType.{ExprType}
use Rattle.lk_typed.specs.declared.typed.ExprType.TheVariants.{Listed}
use Rattle.lk_labels.specs.Leasts.{AreLabels, LabelNamed}
use Rattle.lk_elaborator.proofs.Growing.{grows_on, known_stays, leads_back, true_on, type_on}
use Rattle.lk_elaborator.specs.Elaborating.{Elaborates, ElaboratesConverted, ElaboratesTo, ElaboratesValue}
use Rattle.lk_elaborator.specs.Known.{OfEach}
use Rattle.lk_elaborator.specs.Leading.{Grows, GoesOn, Leads}
use Rattle.lk_elaborator.specs.Telling.{IsTrueOf}
use Rattle.lk_elaborator.specs.declared.elaborator.Elaborator.{Elaborator}
use Rattle.lk_elaborate.proofs.Carried.{first_stand, goes_then, head_stands, parts_stand, rest_stand, stand_on, tail_stands}
use Rattle.lk_elaborate.specs.Asking.{HasPromoted}
use Rattle.lk_elaborate.specs.Making.{HasCases, IsRound, MakesDeclaration, MakesElse, MakesFirst, MakesForm, MakesGiven, MakesItem, MakesItems, MakesPerhaps, MakesStatement, MakesSwitched, MakesValue, OpenForm, StandIn}
use Rattle.lk_elaborate.specs.declared.cases.Cases.{Cases}
use Rattle.lk_elaborate.specs.declared.statements.Around.{Around}

-- ---- expressions

-- what was found of an expression that stands in the source is true of it
pub true_there : (walk : Elaborator) (env : Env) (e : Expr) → StandIn walk (at env (AnExpression e) ∷ []) → IsTrueOf walk (env, e)
true_there walk env e is = (is.told.told env (AnExpression e) (is.each (at env (AnExpression e)) (inl refl))).expressions env e Stands.here

pub valued : (old middle new : Elaborator) (e : Expr) (node t : TypedExpr) → Grows old middle → Elaborates old middle e false node → Grows middle new → ElaboratesValue middle new node t →
    MakesValue old new e t
valued old middle new e node t grows makes more gives env is tables leads =
    gives (env, e) (true_on old middle grows (env, e) (true_there old env e is)) tables leads false
    (makes _ env (is.told.told env (AnExpression e) (is.each (at env (AnExpression e)) (inl refl))) tables (leads_back middle new tables (grows_on middle new more) leads))

pub promoted : (old middle new : Elaborator) (e : Expr) (target : ExprType) (node t : TypedExpr) → IsKnownType old.types target → OfEach old e.ordinal (HasPromoted old.types target) →
    Grows old middle → Elaborates old middle e false node → Grows middle new → ElaboratesConverted middle new node target t → MakesSwitched old new e t
promoted old middle new e target node t known asked grows makes more gives env role is tables leads =
    let true_of = true_there old env e is in
    let has = asked (env, e) refl true_of in
    record {
      typing = has.typing;
      found = has.found;
      converted = subst (λ u. IsConverted tables false (env, e) u t) (type_on old middle grows is.told.ready target known ∙ has.is)
          (gives (env, e) (true_on old middle grows (env, e) true_of) tables leads false
          (makes _ env (is.told.told env (AnExpression e) (is.each (at env (AnExpression e)) (inl refl))) tables (leads_back middle new tables (grows_on middle new more) leads)));
    }

pub given : (old new : Elaborator) (e : Expr) (r : ℕ) (t : TypedExpr) → ElaboratesTo old new e (Listed r) false t → MakesGiven old new e r t
given old new e r t gives env role is tables leads =
    gives _ env (is.told.told env (AnExpression e) (is.each (at env (AnExpression e)) (inl refl))) role tables leads

pub missing : (a b : Elaborator) → MakesPerhaps a b None None
missing a b env is tables leads = IsPerhaps.missing

pub there : (old new : Elaborator) (e : Expr) (t : TypedExpr) → MakesValue old new e t → MakesPerhaps old new (Some e) (Some t)
there old new e t makes env is tables leads = IsPerhaps.there (makes env is tables leads)

-- ---- the head of a for

pub by_value : (old new : Elaborator) (e : Option Expr) (t : Option TypedExpr) → MakesPerhaps old new e t → MakesFirst old new (first.Expr e) (typed_first.Expr t)
by_value old new e t makes env is tables leads = IsFirst.expression (makes env is tables leads)

pub by_declaration : (old new : Elaborator) (node : Declare) (inits : List LocalInit) → MakesDeclaration old new node inits → MakesFirst old new (first.Declare node) (typed_first.Declare inits)
by_declaration old new node inits makes env is tables leads = IsFirst.declaration (makes env is tables leads)

-- ---- what stands round a statement

pub round_on : (old new : Elaborator) (round : Around) (env : Env) (around : spec.Around) → IsReady old.types → GoesOn old new → IsRound old round env around → IsRound new round env around
round_on old new round env around ready on is = record {
  role = is.role;
  labels = is.labels;
  known = known_stays old.types new.types on.longer round.returned is.known;
  result = is.result ∙ ap Some (sym (meaning_stays old.types new.types ready.table_is on.longer round.returned is.known));
}

-- ---- statements by their forms

module _ (round : Around) where
  pub labelled : (old new : Elaborator) (name : Name) (inner : Stmt) (a : TypedStmt) → MakesStatement old new round inner a → MakesForm old new round (StmtForm-F.Label name inner) (TypedStmtForm-F.Label a)
  labelled old new name inner a makes env around is stands tables leads s t form made =
      IsStmt.label form (ap (statement_parts around env) form) (makes env around is stands tables leads) made

  pub cased : (old new : Elaborator) (e : Expr) (inner : Stmt) (a : TypedStmt) → MakesStatement old new round inner a → MakesForm old new round (StmtForm-F.Case e inner) (TypedStmtForm-F.Case a)
  cased old new e inner a makes env around is stands tables leads s t form made =
      IsStmt.case form (ap (statement_parts around env) form)
      (makes _ _ (record { role = is.role; labels = is.labels; known = is.known; result = is.result }) (tail_stands old _ _ stands) tables leads) made

  pub defaulted : (old new : Elaborator) (inner : Stmt) (a : TypedStmt) → MakesStatement old new round inner a → MakesForm old new round (StmtForm-F.Default inner) (TypedStmtForm-F.Default a)
  defaulted old new inner a makes env around is stands tables leads s t form made =
      IsStmt.default form (ap (statement_parts around env) form)
      (makes _ _ (record { role = is.role; labels = is.labels; known = is.known; result = is.result }) stands tables leads) made

  pub blocked : (old new : Elaborator) (items : List BlockItem) (are : List TypedItem) → MakesItems old new round items are → MakesForm old new round (StmtForm-F.Block items) (TypedStmtForm-F.Block are)
  blocked old new items are makes env around is stands tables leads s t form made =
      IsStmt.block form (subst (λ f. AreItems tables (statement_parts around env f) are) (sym form)
      (makes (enter env) around (record { role = is.role; labels = is.labels; known = is.known; result = is.result }) stands tables leads)) made

  pub done : (old new : Elaborator) (e : Option Expr) (a : Option TypedExpr) → MakesPerhaps old new e a → MakesForm old new round (StmtForm-F.Do e) (TypedStmtForm-F.Do a)
  done old new e a makes env around is stands tables leads s t form made =
      IsStmt.do_ form (subst (λ f. IsPerhaps tables e (statement_parts around env f) a) (sym form) (makes env stands tables leads)) made

  pub chosen : (old middle then_ new : Elaborator) (e : Expr) (inner : Stmt) (other : Option Stmt) (c : TypedExpr) (a : TypedStmt) (b : Option TypedStmt) →
      GoesOn old middle → MakesStatement old middle round inner a → GoesOn middle then_ → MakesElse middle then_ round other b → Grows then_ new → MakesValue then_ new e c →
      MakesForm old new round (StmtForm-F.If e inner other) (TypedStmtForm-F.If c a b)
  chosen old middle then_ new e inner other c a b first makes second others third value env around is stands tables leads s t form made =
      let ready = stands.told.ready in
      let on = goes_then old middle then_ first second in
      let before = leads_back then_ new tables (grows_on then_ new third) leads in
      IsStmt.if_ form (ap (statement_parts around env) form)
      (value (enter env) (stand_on old then_ on _ (head_stands old _ _ stands)) tables leads)
      (makes _ _ (record { role = is.role; labels = is.labels; known = is.known; result = is.result }) (head_stands old _ _ (tail_stands old _ _ stands)) tables (leads_back middle then_ tables second before))
      (others _ _ (round_on old middle round _ _ ready first (record { role = is.role; labels = is.labels; known = is.known; result = is.result }))
      (stand_on old middle first _ (tail_stands old _ _ (tail_stands old _ _ stands))) tables before)
      made

  pub switched : (old middle new : Elaborator) (e : Expr) (inner : Stmt) (found : Cases) (v : TypedExpr) (a : TypedStmt) →
      ((env behind : Env) (around : spec.Around) → env.role ≡ AsOperand → behind.role ≡ AsOperand → StandIn old (at env (AnExpression e) ∷ []) → StandIn old (at behind (AStatement around inner) ∷ []) →
      HasCases (switch_kind e env) inner behind found) →
      GoesOn old middle → MakesStatement old middle round inner a → Grows middle new → MakesSwitched middle new e v →
      MakesForm old new round (StmtForm-F.Switch e inner) (TypedStmtForm-F.Switch v found.cases found.default a)
  switched old middle new e inner found v a cases first makes second value env around is stands tables leads s t form made =
      let before = leads_back middle new tables (grows_on middle new second) leads in
      let here = head_stands old _ _ stands in
      let inside = tail_stands old _ _ stands in
      let has = cases (enter env) (enter (behind e env)) (in_body_of_switch around (switch_kind e (enter env))) is.role is.role here inside in
      let is_value = value (enter env) is.role (stand_on old middle first _ here) tables leads in
      IsStmt.switch form (ap (statement_parts around env) form) is_value.found is_value.converted refl has.cases has.default
      (makes _ _ (record { role = is.role; labels = is.labels; known = is.known; result = is.result }) inside tables before) made

  pub while_turned : (old middle new : Elaborator) (e : Expr) (inner : Stmt) (c : TypedExpr) (a : TypedStmt) →
      GoesOn old middle → MakesStatement old middle round inner a → Grows middle new → MakesValue middle new e c → MakesForm old new round (StmtForm-F.While e inner) (TypedStmtForm-F.While c a)
  while_turned old middle new e inner c a first makes second value env around is stands tables leads s t form made =
      IsStmt.while form (ap (statement_parts around env) form)
      (value (enter env) (stand_on old middle first _ (head_stands old _ _ stands)) tables leads)
      (makes _ _ (record { role = is.role; labels = is.labels; known = is.known; result = is.result }) (tail_stands old _ _ stands) tables
      (leads_back middle new tables (grows_on middle new second) leads)) made

  pub until_turned : (old middle new : Elaborator) (e : Expr) (inner : Stmt) (c : TypedExpr) (a : TypedStmt) →
      GoesOn old middle → MakesStatement old middle round inner a → Grows middle new → MakesValue middle new e c → MakesForm old new round (StmtForm-F.Until inner e) (TypedStmtForm-F.Until a c)
  until_turned old middle new e inner c a first makes second value env around is stands tables leads s t form made =
      IsStmt.until form (ap (statement_parts around env) form)
      (makes _ _ (record { role = is.role; labels = is.labels; known = is.known; result = is.result }) (head_stands old _ _ stands) tables
      (leads_back middle new tables (grows_on middle new second) leads))
      (value _ (stand_on old middle first _ (tail_stands old _ _ stands)) tables leads) made

  pub continued : (a b : Elaborator) → MakesForm a b round StmtForm-F.Continue TypedStmtForm-F.Continue
  continued a b env around is stands tables leads s t form made = IsStmt.continue form made

  pub broken : (a b : Elaborator) → MakesForm a b round StmtForm-F.Break TypedStmtForm-F.Break
  broken a b env around is stands tables leads s t form made = IsStmt.break form made

  pub returned : (old new : Elaborator) (e : Expr) (v : TypedExpr) → MakesGiven old new e round.returned v → MakesForm old new round (StmtForm-F.Return (Some e)) (TypedStmtForm-F.Return (Some v))
  returned old new e v makes env around is stands tables leads s t form made =
      let env' = to_result env (Some (meaning old.types round.returned)) in
      let parts : statement_parts around env (StmtForm-F.Return (Some e)) ≡ at env' (AnExpression e) ∷ [] = ap (λ r. perhaps (to_result env r) AnExpression (Some e)) is.result in
      IsStmt.return form (ap (statement_parts around env) form ∙ parts) is.result
      (makes env' refl (subst (StandIn old) parts stands) tables leads) made

  pub returned_nothing : (a b : Elaborator) → MakesForm a b round (StmtForm-F.Return None) (TypedStmtForm-F.Return None)
  returned_nothing a b env around is stands tables leads s t form made = IsStmt.return_nothing form made

  -- a for, whose head is made before what it repeats
  pub for_turned : (old m1 m2 m3 new : Elaborator) (start : ForFirst) (condition step : Option Expr) (inner : Stmt) (f : TypedFirst) (c d : Option TypedExpr) (a : TypedStmt) →
      GoesOn old m1 → MakesFirst old m1 start f → Grows m1 m2 → MakesPerhaps m1 m2 condition c → Grows m2 m3 → MakesPerhaps m2 m3 step d →
      GoesOn m3 new → MakesStatement m3 new round inner a → MakesForm old new round (StmtForm-F.For start condition step inner) (TypedStmtForm-F.For f c d a)
  for_turned old m1 m2 m3 new start condition step inner f c d a on1 firsts grows2 conditions grows3 steps on4 makes env around is stands tables leads s t form made =
      let here = enter env in
      let behind_first = extend here (first_adds start here) in
      let behind_condition = extend behind_first (added_by condition behind_first) in
      let on2 = grows_on m1 m2 grows2 in
      let on3 = grows_on m2 m3 grows3 in
      let on13 = goes_then m1 m2 m3 on2 on3 in
      let on12 = goes_then old m1 m2 on1 on2 in
      let on = goes_then old m1 m3 on1 on13 in
      let leads3 = leads_back m3 new tables on4 leads in
      let leads2 = leads_back m2 m3 tables on3 leads3 in
      let leads1 = leads_back m1 m2 tables on2 leads2 in
      let firsts_are = first_part here start in
      let conditions_are = perhaps behind_first AnExpression condition in
      let steps_are = perhaps behind_condition AnExpression step in
      let last = at (enter (extend behind_condition (added_by step behind_condition))) (AStatement (in_body_of_loop around) inner) ∷ [] in
      let head = first_stand old ((firsts_are ++ conditions_are) ++ steps_are) last stands in
      let starts = first_stand old (firsts_are ++ conditions_are) steps_are head in
      IsStmt.for_ firsts_are conditions_are steps_are form (ap (statement_parts around env) form)
      (firsts here (first_stand old firsts_are conditions_are starts) tables leads1)
      (conditions behind_first (stand_on old m1 on1 _ (rest_stand old firsts_are conditions_are starts)) tables leads2)
      (steps behind_condition (stand_on old m2 on12 _ (rest_stand old (firsts_are ++ conditions_are) steps_are head)) tables leads3)
      (makes _ _ (round_on old m3 round _ _ stands.told.ready on (record { role = is.role; labels = is.labels; known = is.known; result = is.result })) (stand_on old m3 on _ (rest_stand old ((firsts_are ++ conditions_are) ++ steps_are) last stands)) tables leads)
      made

  -- a goto, by a label of the function
  pub gone : (a b : Elaborator) (name : Name) (n : ℕ) → ((found : List Label) → AreLabels round.labels found → LabelNamed found name n) → MakesForm a b round (StmtForm-F.Goto name) (TypedStmtForm-F.Goto n)
  gone a b name n names env around is stands tables leads s t form made =
      let named = names around.labels is.labels in
      IsStmt.goto form named.there named.is
      (subst (λ m. MakesStmt s (TypedStmtForm-F.Goto m) t) (sym named.ordinal) made)

  -- ---- a part that may be missing

  pub no_else : (a b : Elaborator) → MakesElse a b round None None
  no_else a b env around is stands tables leads = IsElse.missing

  pub some_else : (old new : Elaborator) (s : Stmt) (t : TypedStmt) → MakesStatement old new round s t → MakesElse old new round (Some s) (Some t)
  some_else old new s t makes env around is stands tables leads = IsElse.there (makes env around is stands tables leads)

  -- ---- a statement by its form

  pub stated : (old new : Elaborator) (s : Stmt) (form : OpenForm) (t : TypedStmt) → MakesForm old new round (out-StmtForm s.form) form → MakesStmt s form t → MakesStatement old new round s t
  stated old new s form t makes made env around is stands tables leads =
      makes env around is (parts_stand old env (AStatement around s) _ (λ last. refl) stands) tables leads s t refl made

  -- ---- items of a block

  pub declared_item : (old new : Elaborator) (item : BlockItem) (node : Declare) (inits : List LocalInit) (made : TypedItem) → out-BlockItem item ≡ BlockItem-F.Declare node →
      MakesDeclaration old new node inits → out-TypedItem made ≡ TypedItem-F.Declare inits → MakesItem old new round item made
  declared_item old new item node inits made form makes is_made env around is stands tables leads =
      let part = ap (λ f. item_part around env f ∷ []) form in
      subst (λ ps. AreItems tables ps (made ∷ [])) (sym part) (AreItems.declaration (makes env (subst (StandIn old) part stands) tables leads) is_made AreItems.no_more)

  pub statement_item : (old new : Elaborator) (item : BlockItem) (s : Stmt) (t : TypedStmt) (made : TypedItem) → out-BlockItem item ≡ BlockItem-F.Stmt s →
      MakesStatement old new round s t → out-TypedItem made ≡ TypedItem-F.Stmt t → MakesItem old new round item made
  statement_item old new item s t made form makes is_made env around is stands tables leads =
      let part = ap (λ f. item_part around env f ∷ []) form in
      subst (λ ps. AreItems tables ps (made ∷ [])) (sym part) (AreItems.statement (makes env around is (subst (StandIn old) part stands) tables leads) is_made AreItems.no_more)

-- ---- the items of a block, one after the other

items_join : (tables : Tables) {xs ys : List Placed} {us vs : List TypedItem} → AreItems tables xs us → AreItems tables ys vs → AreItems tables (xs ++ ys) (us ++ vs)
items_join tables AreItems.no_more others = others
items_join tables (AreItems.declaration is form rest) others = AreItems.declaration is form (items_join tables rest others)
items_join tables (AreItems.statement is form rest) others = AreItems.statement is form (items_join tables rest others)

-- the items that are left stand behind those that are made
pub record ItemsLeft (old now : Elaborator) (round : Around) (env : Env) (around : spec.Around) (all left : List BlockItem) (made : List TypedItem) : Type 0 where
  pub here : Env
  pub next : spec.Around
  pub is_round : IsRound now round here next
  pub stand : StandIn now (items_in_turn next here left)
  pub on : (tables : Tables) → Leads now tables → (more : List TypedItem) → AreItems tables (items_in_turn next here left) more → AreItems tables (items_in_turn around env all) (made ++ more)

abbrev pub AreLeft : Elaborator → Elaborator → Around → List BlockItem → List BlockItem → List TypedItem → Type 0
AreLeft old now round all left made =
    (env : Env) (around : spec.Around) → IsRound old round env around → StandIn old (items_in_turn around env all) → ItemsLeft old now round env around all left made

pub all_left : (old : Elaborator) (round : Around) (all : List BlockItem) (made : List TypedItem) → made ≡ [] → AreLeft old old round all all made
all_left old round all made none env around is stand = record {
  here = env;
  next = around;
  is_round = is;
  stand = stand;
  on = λ tables leads more are. subst (AreItems tables (items_in_turn around env all)) (sym (ap (λ xs. xs ++ more) none)) are;
}

round_behind : (walk : Elaborator) (round : Around) (env : Env) (around : spec.Around) (f : BlockItem-F BlockItem StmtForm Stmt) → IsRound walk round env around →
    IsRound walk round (extend env (item_adds f env)) (item_around around env f)
round_behind walk round env around (BlockItem-F.Declare node) is = record { role = is.role; labels = is.labels; known = is.known; result = is.result }
round_behind walk round env around (BlockItem-F.Stmt inner) is = record { role = is.role; labels = is.labels; known = is.known; result = is.result }

pub one_less : (old now new : Elaborator) (round : Around) (all left rest : List BlockItem) (i : BlockItem) (made : List TypedItem) (item : TypedItem) (after : List TypedItem) → after ≡ made ++ item ∷ [] → left ≡ i ∷ rest → GoesOn now new →
    AreLeft old now round all left made → MakesItem now new round i item → AreLeft old new round all rest after
one_less old now new round all left rest i made item after put is on were makes env around round_is stand =
    let was = were env around round_is stand in
    let f = out-BlockItem i in
    let turn = ap (items_in_turn was.next was.here) is in
    let stands = subst (StandIn now) turn was.stand in
    let one = head_stands now (item_part was.next was.here f) _ stands in
    record {
      here = extend was.here (item_adds f was.here);
      next = item_around was.next was.here f;
      is_round = round_behind new round was.here was.next f (round_on now new round was.here was.next stands.told.ready on was.is_round);
      stand = stand_on now new on _ (tail_stands now (item_part was.next was.here f) _ stands);
      on = λ tables leads more are.
          subst (AreItems tables (items_in_turn around env all)) (sym (ap (λ xs. xs ++ more) put ∙ append_assoc made (item ∷ []) more))
          (was.on tables (leads_back now new tables on leads) (item ∷ more)
          (subst (λ ps. AreItems tables ps (item ∷ more)) (sym turn) (items_join tables (makes was.here was.next was.is_round one tables leads) are)));
    }

pub none_left : (old now : Elaborator) (round : Around) (all left : List BlockItem) (made : List TypedItem) → left ≡ [] → AreLeft old now round all left made → MakesItems old now round all made
none_left old now round all left made is were env around round_is stand tables leads =
    let was = were env around round_is stand in
    subst (AreItems tables (items_in_turn around env all)) (append-nil made)
    (was.on tables leads [] (subst (λ is. AreItems tables (items_in_turn was.next was.here is) []) (sym is) AreItems.no_more))
