-- Enumerators that are walked one after another.
use Rattle.std.proofs.Common.{◌≡◌, ◌∙◌, ◌++◌, Bool, false, List, [], ◌∷◌, Option, Some, None, map, refl, sym, ap, subst}
use Rattle.std.specs.Prelude.{◌||◌, if◌then◌else◌, is_some, option_map, ℤ}
use Rattle.lk_types.specs.Table.{Table}
use Rattle.lk_tree.specs.declared.expression.Expr.{Expr}
use Rattle.lk_tree.specs.declared.expression.Item.{Item, out-Item}
use Rattle.lk_typed.specs.Env.{Additions, AsOperand, Env, as_operand, extend}
use Rattle.lk_typed.specs.Expressions.{expr_adds, expr_constant, expression, item_found}
use Rattle.lk_typed.specs.Faults.{Breach}
use Rattle.lk_typed.specs.HolderRules.{item_rules}
use Rattle.lk_typed.specs.Layers.{item_told}
use Rattle.lk_typed.specs.NodeParts.{parts}
use Rattle.lk_typed.specs.NodeRules.{breaches, item_meaning, mark, plain_name}
use Rattle.lk_typed.specs.Nodes.{AnExpression, AnItem, at}
use Rattle.lk_typed.specs.Parts.{added_by, items_parts, perhaps}
use Rattle.lk_typed.specs.Redeclared.{name_rules}
use Rattle.lk_typed.specs.Stands.{Mark}
use Rattle.lk_typed.specs.Telling.{item_value, size_added, size_holds}
use Rattle.lk_typed.specs.Told.{ItemTold, declares, enumerator, items_hold_sizeof, items_in_turn}
use Rattle.lk_typed.specs.Typing.{Judged, Typing, constant_in}
use Rattle.lk_rules.proofs.Parts.{items_are_asked}
use Rattle.lk_rules.proofs.Kept.{codes_are_kept_behind_parts}
use Rattle.lk_rules.proofs.Layered.{items_follow_their_parts}
use Rattle.lk_rules.specs.Keeping.{KeepsCodes}
use Rattle.lk_rules.specs.NodeLaws.{has_type_if_there}
use Rattle.lk_types.proofs.GrowLemmas.{longer_then}
use Rattle.lk_typed.specs.Names.{role_in}
use Rattle.lk_typed.specs.declared.role.Role.TheVariants.{Operand}
use Rattle.lk_found.proofs.Gathering.{or_false}
use Rattle.lk_found.proofs.Environments.{extend_both}
use Rattle.lk_found.specs.Findings.{IsFoundTyping, mark_at}
use Rattle.lk_found.specs.declared.found.At.{At}
use Rattle.lk_found.specs.declared.found.Found.{Found}
use Rattle.lk_found.specs.declared.found.Stands.{Stands}
use Rattle.lk_typed.specs.Nodes as nodes
use Rattle.lk_checker.proofs.Somewhere.{somewhere}
use Rattle.lk_checker.specs.Counting.{IsSettled}
use Rattle.lk_checker.specs.States.{operand_in, IsIn, IsSound, StandsIn, kept_in}
use Rattle.lk_checker.specs.declared.checker.Checker.{Checker}
use Rattle.lk_checker.specs.declared.enumerators.ItemFound.{ItemFound}
use Rattle.lk_checker.proofs.GoingOn.{stands_behind}
use Rattle.lk_check_walk.proofs.Gathers.{or_assoc}
use Rattle.lk_check_walk.proofs.Walking.{no_walk, then_walks}
use Rattle.lk_check_walk.specs.Counting.{AreItems, Counts, CountsAll, IsItem}
use Rattle.lk_check_walk.proofs.Truth.{truth_of_node, truth_still}
use Rattle.lk_check_walk.specs.Walking.{IsJudged}
use Rattle.lk_check_walk.specs.Walks.{Walks}

-- ---- one behind others

pub record AreItemsLeft (at_end : Env) (old now : Checker) (env : Env) (in_size : Bool) (start before : Option ℤ) (is rest : List Item) (holds : Bool) : Type 0 where
  pub here : Env
  pub stands : StandsIn now (operand_in in_size) here
  pub all : (new : Checker) → Walks at_end now new here (items_in_turn (map item_found rest) here before) (items_parts here before rest) →
      AreItems at_end old new env start is (holds || items_hold_sizeof (map item_found rest) here before)

abbrev pub LeavesItems : Checker → Checker → Bool → Option ℤ → Option ℤ → List Item → List Item → Bool → Type 0
LeavesItems old now in_size start before is rest holds =
    (at_end env : Env) → StandsIn old (operand_in in_size) env → AreItemsLeft at_end old now env in_size start before is rest holds

pub leaves_all : (checker : Checker) (in_size : Bool) (start : Option ℤ) (is : List Item) → LeavesItems checker checker in_size start start is is false
leaves_all checker in_size start is at_end env stands = record {
  here = env;
  stands = stands;
  all = λ new walks. record { walks = walks; holds_sizeof = refl };
}

pub leaves_rest : (old now next : Checker) (in_size : Bool) (start before : Option ℤ) (is : List Item) (i : Item) (rest : List Item) (holds : Bool) (found : ItemFound) →
    LeavesItems old now in_size start before is (i ∷ rest) holds → Counts now next in_size before i found →
    LeavesItems old next in_size start found.value is rest (holds || found.holds_sizeof)
leaves_rest old now next in_size start before is i rest holds found leaves counts at_end env stands =
    let f = leaves at_end env stands in
    let here = f.here in
    let told = item_found i here before in
    let one = counts at_end here f.stands in
    let behind = extend here told.additions in
    record {
      here = behind;
      stands = stands_behind now next in_size here told.additions f.stands one.walks.behind;
      all = λ new others.
          let walks = subst (λ value. Walks at_end next new behind (items_in_turn (map item_found rest) behind value) (items_parts behind value rest)) one.value others in
          let whole = f.all new (then_walks at_end now next new here told.additions (items_in_turn (map item_found rest) behind told.value) (at here (AnItem before i) ∷ [])
          (items_parts behind told.value rest) one.walks walks) in
          record {
            walks = whole.walks;
            holds_sizeof =
                or_assoc holds found.holds_sizeof (items_hold_sizeof (map item_found rest) behind found.value) ∙
                ap (λ h. holds || (h || items_hold_sizeof (map item_found rest) behind found.value)) one.holds_sizeof ∙
                ap (λ value. holds || (told.holds_sizeof || items_hold_sizeof (map item_found rest) behind value)) one.value ∙
                whole.holds_sizeof;
          };
    }

pub leaves_none : (old new : Checker) (in_size : Bool) (start before : Option ℤ) (is : List Item) (holds : Bool) → IsSound new → LeavesItems old new in_size start before is [] holds →
    CountsAll old new in_size start is holds
leaves_none old new in_size start before is holds sound leaves at_end env stands =
    let f = leaves at_end env stands in
    subst (AreItems at_end old new env start is) (or_false holds) (f.all new (no_walk at_end new f.here sound f.stands.is_in))

pub counts_sound : (old new : Checker) (in_size : Bool) (before : Option ℤ) (i : Item) (found : ItemFound) → Counts old new in_size before i found → IsSound new
counts_sound old new in_size before i found counts = let some = somewhere old (operand_in in_size) in (counts some.0 some.0 some.1).walks.sound

-- ---- its own codes behind its value

module _ (at_end : Env) (old middle new : Checker) (env : Env) (before : Option ℤ) (i : Item) where
  abbrev told_as : Additions → Option ℤ → Bool → ItemTold
  told_as a value holds = item_told (out-Item i).name (out-Item i).ordinal a value holds

  pub item_walked : (found : ItemFound) (at : At) (a : Additions) (broken : List Breach) → mark_at at ≡ mark (out-Item i).spot (out-Item i).ordinal →
      Walks at_end old middle env a (parts at_end env (AnItem before i)) → item_found i env before ≡ told_as a found.value found.holds_sizeof →
      breaches at_end env (AnItem before i) ≡ broken → IsSettled middle new (extend env a) at (out-Item i).name found.value broken → IsItem at_end old new env before i found
  item_walked found at a broken marked walks told are settled =
      let added = declares (out-Item i).name (out-Item i).ordinal (enumerator found.value) in
      let own = subst (λ bs. KeepsCodes (kept_in middle) (mark (out-Item i).spot (out-Item i).ordinal) bs (kept_in new)) (sym are)
      (subst (λ m. KeepsCodes (kept_in middle) m broken (kept_in new)) marked settled.keeps) in
      let behind = subst (IsIn new) (extend_both env a added)
      (subst (λ (m : Mark). IsIn new (extend (extend env a) (declares (out-Item i).name m.ordinal (enumerator found.value)))) marked settled.behind) in
      record {
        walks = subst (λ (t : ItemTold). Walks at_end old new env t.additions (nodes.at env (AnItem before i) ∷ [])) (sym told)
            (record {
              longer = longer_then old.types middle.types new.types walks.longer settled.longer;
              sound = settled.sound;
              outside = settled.outside ∙ walks.outside;
              begun = λ s begun. settled.begun s (walks.begun s begun);
              behind = behind;
              keeps = codes_are_kept_behind_parts at_end env (AnItem before i) (kept_in old) (kept_in middle) (kept_in new) refl walks.keeps own;
              records = truth_of_node at_end old new env (AnItem before i) refl
                  (truth_still at_end old middle new (parts at_end env (AnItem before i)) walks.sound.ready.table_is settled.longer settled.records walks.records);
            });
        value = ap (λ (t : ItemTold). t.value) (sym told);
        holds_sizeof = ap (λ (t : ItemTold). t.holds_sizeof) (sym told);
      }

  added_same : (value : Option Expr) → size_added (option_map expression value) env ≡ added_by value env
  added_same None = refl
  added_same (Some e) = refl

  abbrev codes_by : Option Expr → Option ℤ → List Breach
  codes_by value v =
      if has_type_if_there env value then item_rules env before value ++ name_rules (extend env (added_by value env)) (plain_name (out-Item i).name (item_meaning v)) else []

  pub item_by : (found : ItemFound) (at : At) (value : Option Expr) (bs : List Breach) (typed : Bool) → (out-Item i).value ≡ value →
      mark_at at ≡ mark (out-Item i).spot (out-Item i).ordinal → Walks at_end old middle env (added_by value env) (perhaps env AnExpression value) →
      found.value ≡ item_value (option_map expression value) env before → found.holds_sizeof ≡ size_holds (option_map expression value) env → bs ≡ item_rules env before value →
      typed ≡ has_type_if_there env value →
      ((e : Env) → IsIn middle e → IsSettled middle new e at (out-Item i).name found.value
      (if typed then bs ++ name_rules e (plain_name (out-Item i).name (item_meaning found.value)) else [])) → IsItem at_end old new env before i found
  item_by found at value bs typed is marked walks same holds coded has settles =
      let told : item_found i env before ≡ told_as (added_by value env) found.value found.holds_sizeof =
      ap (λ f. f env before) (items_follow_their_parts i) ∙
      ap (λ v. told_as (size_added (option_map expression v) env) (item_value (option_map expression v) env before) (size_holds (option_map expression v) env)) is ∙
      ap (λ a. told_as a (item_value (option_map expression value) env before) (size_holds (option_map expression value) env)) (added_same value) ∙
      ap (λ v. told_as (added_by value env) v (size_holds (option_map expression value) env)) (sym same) ∙
      ap (λ h. told_as (added_by value env) found.value h) (sym holds) in
      let are : breaches at_end env (AnItem before i) ≡ codes_by value found.value =
      items_are_asked at_end env before i ∙ ap (λ v. codes_by v (item_found i env before).value) is ∙ ap (λ (t : ItemTold). codes_by value t.value) told in
      let behind = extend env (added_by value env) in
      let settled = settles behind walks.behind in
      item_walked found at (added_by value env) (codes_by value found.value) marked (subst (λ v. Walks at_end old middle env (added_by value env) (perhaps env AnExpression v)) (sym is) walks) told are
      (subst (λ b. IsSettled middle new behind at (out-Item i).name found.value (if b then item_rules env before value ++ name_rules behind (plain_name (out-Item i).name (item_meaning found.value)) else [])) has
      (subst (λ cs. IsSettled middle new behind at (out-Item i).name found.value (if typed then cs ++ name_rules behind (plain_name (out-Item i).name (item_meaning found.value)) else [])) coded settled))

-- ---- a value that is written

pub as_it_is : (env : Env) → AsOperand ≡ env.role → as_operand env ≡ env
as_it_is env is = ap (λ r. record env { role = r }) is

pub found_constant : (table : Table) (found : Found) (x : Option Typing) → IsFoundTyping table found x → option_map (λ typed. typed.constant) found.typing ≡ constant_in x
found_constant table found None is = ap (option_map (λ typed. typed.constant)) is
found_constant table found (Some x) is = ap (option_map (λ typed. typed.constant)) is.1 ∙ ap Some is.2.constant

pub found_typed : (table : Table) (found : Found) (x : Option Typing) → IsFoundTyping table found x → is_some found.typing ≡ is_some x
found_typed table found None is = ap is_some is
found_typed table found (Some x) is = ap is_some is.1

module _ (at_end : Env) (old middle : Checker) (in_size : Bool) (env : Env) (e : Expr) (found : Found) (stands : StandsIn old (operand_in in_size) env) (judged : IsJudged at_end old middle env e found) where
  is_operand : expression e (as_operand env) ≡ expression e env
  is_operand = ap (expression e) (as_it_is env stands.role)

  pub operand_walks : Walks at_end old middle env (expr_adds e env) (at env (AnExpression e) ∷ [])
  operand_walks = subst (λ (x : Judged). Walks at_end old middle env x.adds (at env (AnExpression e) ∷ [])) (sym is_operand) judged.walks

  pub operand_constant : option_map (λ typed. typed.constant) found.typing ≡ expr_constant e env
  operand_constant = found_constant middle.types found (expression e env).typing judged.found.typing ∙ ap (λ (x : Judged). constant_in x.typing) (sym is_operand)

  pub operand_holds : found.look.holds_sizeof ≡ (expression e (as_operand env)).look.holds_sizeof
  operand_holds = sym judged.found.look.holds_sizeof ∙ ap (λ (x : Judged). x.look.holds_sizeof) (sym is_operand)

  pub operand_typed : is_some found.typing ≡ is_some (expression e env).typing
  operand_typed = found_typed middle.types found (expression e env).typing judged.found.typing

-- ---- in whatever environment

pub counts_all_sound : (old new : Checker) (in_size : Bool) (before : Option ℤ) (is : List Item) (holds : Bool) → CountsAll old new in_size before is holds → IsSound new
counts_all_sound old new in_size before is holds counts = let some = somewhere old (operand_in in_size) in (counts some.0 some.0 some.1).walks.sound

pub stands_as : (checker : Checker) (stands : Stands) (in_size : Bool) (env : Env) → stands.role ≡ Operand → stands.in_size ≡ in_size → StandsIn checker (operand_in in_size) env → StandsIn checker stands env
stands_as checker stands in_size env role size is = record { is_in = is.is_in; role = ap (role_in checker.types) role ∙ is.role; in_size = size ∙ is.in_size }
