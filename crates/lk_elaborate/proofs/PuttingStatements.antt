-- What the parts of a statement put, the statement puts.
use Rattle.std.proofs.Common.{◌≡◌, ◌⊎◌, ◌++◌, ℕ, length, Option, Some, None, List, [], ◌∷◌, inl, inr, refl, sym, ap, subst}
use Rattle.std.proofs.lemmas.List.{append-nil}
use Rattle.lk_tree.specs.declared.declaration.Declare.{Declare}
use Rattle.lk_tree.specs.declared.expression.Expr.{Expr}
use Rattle.lk_tree.specs.declared.statement.BlockItem.TheOpen.{BlockItem-F, StmtForm-F}
use Rattle.lk_tree.specs.declared.statement.BlockItem.{BlockItem, out-BlockItem}
use Rattle.lk_tree.specs.declared.statement.ForFirst.{ForFirst}
use Rattle.lk_tree.specs.declared.statement.ForFirst.TheVariants as first
use Rattle.lk_tree.specs.declared.statement.Function.{Function as Definition}
use Rattle.lk_tree.specs.declared.statement.Stmt.{Stmt}
use Rattle.lk_tree.specs.declared.statement.StmtForm.{out-StmtForm}
use Rattle.lk_typed.specs.Entities.{DeclaresName, NameDeclared}
use Rattle.lk_typed.specs.Env.{Env, Name, enter, extend}
use Rattle.lk_typed.specs.Labels.{labels}
use Rattle.lk_typed.specs.NodeParts.{body_items}
use Rattle.lk_typed.specs.Nodes.{AStatement, AnExpression, Placed, at}
use Rattle.lk_typed.specs.Parts.{added_by, first_adds, first_part, item_adds, item_around, item_part, items_in_turn, perhaps, statement_parts}
use Rattle.lk_typed.specs.Stands.{IsIn}
use Rattle.lk_typed.specs.StatementRules.{Around, in_body_of_loop, in_function}
use Rattle.lk_elaborator.proofs.Growing.{grows_on, grows_same}
use Rattle.lk_elaborator.specs.Leading.{GoesOn, Grows}
use Rattle.lk_elaborator.specs.declared.elaborator.Elaborator.{Elaborator}
use Rattle.lk_elaborate.proofs.Carried.{goes_same, goes_then, in_first, in_rest, node_part, source_stays}
use Rattle.lk_elaborate.proofs.Inside.{by_part, inside_either, inside_first, inside_rest, itself_or_part, nothing_inside}
use Rattle.lk_elaborate.proofs.PuttingDeclared.{GivesObject, NamesIn, ObjectsIn, all_of, loud_name, loud_object, those_of}
use Rattle.lk_elaborate.proofs.PuttingThose.{puts_nothing, puts_same, puts_then}
use Rattle.lk_elaborate.proofs.Quiet.{AreQuiet, IsQuiet, value_quiet}
use Rattle.lk_elaborate.specs.Defining.{inside}
use Rattle.lk_elaborate.specs.Putting.{PutsAll, PutsIn}
use Rattle.lk_elaborate.specs.PuttingStatements.{PutsBlock, PutsElse, PutsFirst, PutsForm, PutsInBlock, PutsItem, PutsItems, PutsStatement}

-- ---- nodes one after the other

abbrev body_in : Elaborator → Option ℕ
body_in walk = Some (length walk.bodies.items)

pub then_in : (old mid new : Elaborator) (xs ys : List Placed) → GoesOn old mid → GoesOn mid new → PutsIn old mid xs → PutsIn mid new ys → PutsIn old new (xs ++ ys)
then_in old mid new xs ys on further first second stand =
    let e = stand.externs in
    let u = stand.unit in
    let told = source_stays old mid on e u stand.told in
    let in_xs = λ (part : Placed) (there : IsIn part xs). stand.each part (in_first part xs ys there) in
    let in_ys = λ (part : Placed) (there : IsIn part ys). stand.each part (in_rest part xs ys there) in
    let one : PutsAll e u xs old mid (body_in old) = first (record { externs = e; unit = u; told = stand.told; each = in_xs }) in
    let other : PutsAll e u ys mid new (body_in old) =
    subst (PutsAll e u ys mid new) (ap (λ bodies. Some (length bodies.items)) one.bodies) (second (record { externs = e; unit = u; told = told; each = in_ys })) in
    all_of e u (xs ++ ys) old new (body_in old)
    (puts_same e u (λ n. NamesIn e u xs n ⊎ NamesIn e u ys n) (NamesIn e u (xs ++ ys)) (λ o. ObjectsIn e u xs o ⊎ ObjectsIn e u ys o) (ObjectsIn e u (xs ++ ys))
    (λ n by. elim by [ inl a ↦ inside_first e u DeclaresName xs ys n a | inr b ↦ inside_rest e u DeclaresName xs ys n b ])
    (inside_either e u DeclaresName xs ys) (inside_either e u GivesObject xs ys) old new (body_in old)
    (puts_then e u (NamesIn e u xs) (NamesIn e u ys) (ObjectsIn e u xs) (ObjectsIn e u ys) old mid new (body_in old) told.ready further (those_of e u xs old mid (body_in old) in_xs one)
    (those_of e u ys mid new (body_in old) in_ys other)))

-- nodes in which nothing is declared, while types are added
pub quiet_in : (old new : Elaborator) (qs : List Placed) → AreQuiet qs → Grows old new → PutsIn old new qs
quiet_in old new qs quiet grows stand =
    let e = stand.externs in
    let u = stand.unit in
    all_of e u qs old new (body_in old)
    (puts_nothing e u (NamesIn e u qs) (ObjectsIn e u qs) (λ n by. nothing_inside e u DeclaresName loud_name qs n quiet by) (λ o by. nothing_inside e u GivesObject loud_object qs o quiet by)
    old new (body_in old)
    grows)

-- one of them before others, or some behind others
before : (old new : Elaborator) (q : Placed) (ys : List Placed) → IsQuiet q.node → GoesOn old new → PutsIn old new ys → PutsIn old new (q ∷ ys)
before old new q ys quiet on puts = then_in old old new (q ∷ []) ys (goes_same old) on (quiet_in old old (q ∷ []) (quiet, tt) (grows_same old)) puts

after : (old mid new : Elaborator) (xs qs : List Placed) → GoesOn old mid → AreQuiet qs → Grows mid new → PutsIn old mid xs → PutsIn old new (xs ++ qs)
after old mid new xs qs on quiet grows puts = then_in old mid new xs qs on (grows_on mid new grows) puts (quiet_in mid new qs quiet grows)

-- types are added behind
grown : (old mid new : Elaborator) (xs : List Placed) → GoesOn old mid → Grows mid new → PutsIn old mid xs → PutsIn old new xs
grown old mid new xs on grows puts = subst (PutsIn old new) (append-nil xs) (after old mid new xs [] on tt grows puts)

-- ---- a statement by its parts

no_name : (env : Env) (around : Around) (s : Stmt) (n : NameDeclared) → DeclaresName env (AStatement around s) n → ⊥
no_name env around s n declares = elim declares [ ]

no_object : (env : Env) (around : Around) (s : Stmt) (o : ℕ) → GivesObject env (AStatement around s) o → ⊥
no_object env around s o given = elim given [ ]

pub stated : (old new : Elaborator) (s : Stmt) → PutsForm old new (out-StmtForm s.form) → PutsStatement old new s
stated old new s puts env around stand =
    let e = stand.externs in
    let u = stand.unit in
    let node = AStatement around s in
    let placed = statement_parts around env (out-StmtForm s.form) in
    let each = λ (part : Placed) (there : IsIn part placed). node_part e u env node part (stand.each (at env node) (inl refl)) there in
    let all : PutsAll e u placed old new (body_in old) = puts env around (record { externs = e; unit = u; told = stand.told; each = each }) in
    all_of e u (at env node ∷ []) old new (body_in old)
    (puts_same e u (NamesIn e u placed) (NamesIn e u (at env node ∷ [])) (ObjectsIn e u placed) (ObjectsIn e u (at env node ∷ [])) (by_part e u DeclaresName env node)
    (λ n by. elim (itself_or_part e u DeclaresName env node n by) [ inl own ↦ absurd (no_name env around s n own) | inr deeper ↦ deeper ])
    (λ o by. elim (itself_or_part e u GivesObject env node o by) [ inl own ↦ absurd (no_object env around s o own) | inr deeper ↦ deeper ]) old new (body_in old)
    (those_of e u placed old new (body_in old) each all))

-- ---- statements by their forms

pub labelled : (old new : Elaborator) (name : Name) (inner : Stmt) → PutsStatement old new inner → PutsForm old new (StmtForm-F.Label name inner)
labelled old new name inner puts env around = puts env around

pub cased : (old new : Elaborator) (e : Expr) (inner : Stmt) → GoesOn old new → PutsStatement old new inner → PutsForm old new (StmtForm-F.Case e inner)
cased old new e inner on puts env around = before old new _ _ tt on (puts _ _)

pub defaulted : (old new : Elaborator) (inner : Stmt) → PutsStatement old new inner → PutsForm old new (StmtForm-F.Default inner)
defaulted old new inner puts env around = puts env _

pub blocked : (old new : Elaborator) (items : List BlockItem) → PutsItems old new items → PutsForm old new (StmtForm-F.Block items)
blocked old new items puts env around = puts (enter env) around

pub done : (old new : Elaborator) (e : Option Expr) → Grows old new → PutsForm old new (StmtForm-F.Do e)
done old new e grows env around = quiet_in old new _ (value_quiet env e) grows

pub chosen : (old mid late new : Elaborator) (e : Expr) (inner : Stmt) (other : Option Stmt) → GoesOn old mid → PutsStatement old mid inner → GoesOn mid late → PutsElse mid late other →
    Grows late new →
    PutsForm old new (StmtForm-F.If e inner other)
chosen old mid late new e inner other on puts further others grows env around =
    let all = goes_then old mid late on further in grown old late new _ all grows (before old late _ _ tt all (then_in old mid late (_ ∷ []) _ on further (puts _ _) (others _ _)))

pub switched : (old mid new : Elaborator) (e : Expr) (inner : Stmt) → GoesOn old mid → PutsStatement old mid inner → Grows mid new → PutsForm old new (StmtForm-F.Switch e inner)
switched old mid new e inner on puts grows env around = grown old mid new _ on grows (before old mid _ _ tt on (puts _ _))

pub while_turned : (old mid new : Elaborator) (e : Expr) (inner : Stmt) → GoesOn old mid → PutsStatement old mid inner → Grows mid new → PutsForm old new (StmtForm-F.While e inner)
while_turned old mid new e inner on puts grows env around = grown old mid new _ on grows (before old mid _ _ tt on (puts _ _))

pub until_turned : (old mid new : Elaborator) (e : Expr) (inner : Stmt) → GoesOn old mid → PutsStatement old mid inner → Grows mid new → PutsForm old new (StmtForm-F.Until inner e)
until_turned old mid new e inner on puts grows env around = after old mid new (_ ∷ []) (_ ∷ []) on (tt, tt) grows (puts _ _)

pub for_turned : (old mid new : Elaborator) (start : ForFirst) (condition step : Option Expr) (inner : Stmt) → GoesOn old mid → PutsFirst old mid start → GoesOn mid new → PutsStatement mid new inner →
    PutsForm old new (StmtForm-F.For start condition step inner)
for_turned old mid new start condition step inner on firsts further puts env around =
    let here = enter env in
    let behind_first = extend here (first_adds start here) in
    let behind_condition = extend behind_first (added_by condition behind_first) in
    let firsts_are = first_part here start in
    let conditions_are = perhaps behind_first AnExpression condition in
    let steps_are = perhaps behind_condition AnExpression step in
    let last = at (enter (extend behind_condition (added_by step behind_condition))) (AStatement (in_body_of_loop around) inner) ∷ [] in
    then_in old mid new ((firsts_are ++ conditions_are) ++ steps_are) last on further
    (after old mid mid (firsts_are ++ conditions_are) steps_are on (value_quiet behind_condition step) (grows_same mid)
    (after old mid mid firsts_are conditions_are on (value_quiet behind_first condition) (grows_same mid) (firsts here)))
    (puts _ _)

pub gone : (walk : Elaborator) (name : Name) → PutsForm walk walk (StmtForm-F.Goto name)
gone walk name env around = quiet_in walk walk [] tt (grows_same walk)

pub continued : (walk : Elaborator) → PutsForm walk walk StmtForm-F.Continue
continued walk env around = quiet_in walk walk [] tt (grows_same walk)

pub broken : (walk : Elaborator) → PutsForm walk walk StmtForm-F.Break
broken walk env around = quiet_in walk walk [] tt (grows_same walk)

pub returned : (old new : Elaborator) (e : Option Expr) → Grows old new → PutsForm old new (StmtForm-F.Return e)
returned old new e grows env around = quiet_in old new _ (value_quiet _ e) grows

-- ---- the head of a for

pub by_value : (old new : Elaborator) (e : Option Expr) → Grows old new → PutsFirst old new (first.Expr e)
by_value old new e grows env = quiet_in old new _ (value_quiet env e) grows

pub by_declaration : (old new : Elaborator) (node : Declare) → PutsInBlock old new node → PutsFirst old new (first.Declare node)
by_declaration old new node puts env = puts env

pub head_put : (old one two new : Elaborator) (start : ForFirst) → GoesOn old one → PutsFirst old one start → Grows one two → Grows two new → PutsFirst old new start
head_put old one two new start on puts grows further env = grown old two new _ (goes_then old one two on (grows_on one two grows)) further (grown old one two _ on grows (puts env))

-- ---- a part that may be missing

pub no_else : (walk : Elaborator) → PutsElse walk walk None
no_else walk env around = quiet_in walk walk [] tt (grows_same walk)

pub some_else : (old new : Elaborator) (s : Stmt) → PutsStatement old new s → PutsElse old new (Some s)
some_else old new s puts env around = puts env around

-- ---- items of a block, one after the other

pub declared_item : (old new : Elaborator) (item : BlockItem) (node : Declare) → out-BlockItem item ≡ BlockItem-F.Declare node → PutsInBlock old new node → PutsItem old new item
declared_item old new item node form puts env around = subst (λ f. PutsIn old new (item_part around env f ∷ [])) (sym form) (puts env)

pub statement_item : (old new : Elaborator) (item : BlockItem) (s : Stmt) → out-BlockItem item ≡ BlockItem-F.Stmt s → PutsStatement old new s → PutsItem old new item
statement_item old new item s form puts env around = subst (λ f. PutsIn old new (item_part around env f ∷ [])) (sym form) (puts env around)

-- with what the items that are left put, all items put all of it
pub record ItemsLeft (old now : Elaborator) (env : Env) (around : Around) (all left : List BlockItem) : Type 0 where
  pub here : Env
  pub next : Around
  pub on : (new : Elaborator) → GoesOn now new → PutsIn now new (items_in_turn next here left) → PutsIn old new (items_in_turn around env all)

abbrev pub AreItemsLeft : Elaborator → Elaborator → List BlockItem → List BlockItem → Type 0
AreItemsLeft old now all left = (env : Env) (around : Around) → ItemsLeft old now env around all left

pub all_left : (walk : Elaborator) (all : List BlockItem) → AreItemsLeft walk walk all all
all_left walk all env around = record { here = env; next = around; on = λ new on puts. puts }

pub one_less : (old now mid : Elaborator) (all left rest : List BlockItem) (i : BlockItem) → left ≡ i ∷ rest → GoesOn now mid → PutsItem now mid i → AreItemsLeft old now all left →
    AreItemsLeft old mid all rest
one_less old now mid all left rest i is on puts were env around =
    let was = were env around in
    let f = out-BlockItem i in
    record {
      here = extend was.here (item_adds f was.here);
      next = item_around was.next was.here f;
      on = λ new further others. was.on new (goes_then now mid new on further)
          (subst (λ items. PutsIn now new (items_in_turn was.next was.here items)) (sym is) (then_in now mid new (item_part was.next was.here f ∷ []) _ on further (puts was.here was.next) others));
    }

pub none_left : (old now : Elaborator) (all left : List BlockItem) → left ≡ [] → AreItemsLeft old now all left → PutsItems old now all
none_left old now all left is were env around =
    let was = were env around in
    was.on now (goes_same now) (subst (λ items. PutsIn now now (items_in_turn was.next was.here items)) (sym is) (quiet_in now now [] tt (grows_same now)))

-- ---- the body of a definition

pub block_put : (old new : Elaborator) (node : Definition) (items : List BlockItem) → items ≡ body_items (out-StmtForm node.body.form) → PutsItems old new items → PutsBlock old new node
block_put old new node items same puts env = subst (λ list. PutsIn old new (items_in_turn (in_function (labels node.body)) (inside env node) list)) same
    (puts (inside env node) (in_function (labels node.body)))
