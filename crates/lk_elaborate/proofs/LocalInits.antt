-- The initialiser of a local.
use Rattle.std.proofs.Common.{◌≡◌, ◌∙◌, ◌++◌, ℕ, List, [], ◌∷◌, Some, refl, sym, ap, subst}
use Rattle.std.specs.Prelude.{slice_get}
use Rattle.lk_tree.specs.declared.declaration.Init.{Init}
use Rattle.lk_tree.specs.declared.statement.Unit.{Unit}
use Rattle.lk_types.specs.Table.{Table}
use Rattle.lk_typed.specs.Absent.{AreAllAbsent, IsAbsent, IsCell, Path, cells_named}
use Rattle.lk_typed.specs.Absent.IsCell.{scalar, lock, element, member}
use Rattle.lk_typed.specs.Env.{Env, Name}
use Rattle.lk_typed.specs.Initialised as spec
use Rattle.lk_typed.specs.InitialiserRules.{Object}
use Rattle.lk_typed.specs.LocalInits.{AreLocalParts, IsLocalInit, IsLocalValue}
use Rattle.lk_typed.specs.LocalInits.AreLocalParts.{no_more as no_locals, next as one_local}
use Rattle.lk_typed.specs.LocalInits.IsLocalValue.{bytes as local_bytes, expression as local_value, word as local_word}
use Rattle.lk_typed.specs.Meaning.{meaning}
use Rattle.lk_typed.specs.MemberRules.{fields_in}
use Rattle.lk_typed.specs.Nodes.{AnInitialiser}
use Rattle.lk_typed.specs.Stands.Stands.{here}
use Rattle.lk_typed.specs.Tables.{Tables}
use Rattle.lk_typed.specs.Ty.{Ty}
use Rattle.lk_typed.specs.Units.{IsNode}
use Rattle.lk_typed.specs.declared.initialiser.AbsentCells.{AbsentCells}
use Rattle.lk_typed.specs.declared.initialiser.LocalPart.{LocalPart}
use Rattle.lk_typed.specs.declared.initialiser.LocalValue.{LocalValue}
use Rattle.lk_typed.specs.declared.statement.LocalInit.{LocalInit}
use Rattle.lk_nodes.specs.Settled.{Holds}
use Rattle.lk_nodes.specs.Settled.Holds.{in_element, in_member, itself}
use Rattle.lk_elaborator.proofs.Growing.{grows_on}
use Rattle.lk_elaborator.specs.Leading.{Grows, Leads, local_by}
use Rattle.lk_elaborator.specs.declared.elaborator.Elaborator.{Elaborator}
use Rattle.lk_elab_init.specs.Cells.{cells_begun, cells_given, cells_of_text}
use Rattle.lk_elab_init.specs.Giving.{AreGivenAs, BeginsAs, GivesTo}
use Rattle.lk_elab_init.specs.Giving.AreGivenAs.{no_more, next}
use Rattle.lk_elab_init.specs.Giving.BeginsAs.{a_value, the_bytes, the_word}
use Rattle.lk_elab_init.specs.Places.{ArePut}
use Rattle.lk_elab_init.specs.Settled.{fields_listed}
use Rattle.lk_elab_init.specs.Source.{IsToldSource}
use Rattle.lk_elab_init.specs.declared.givens.Beginning.{Beginning}
use Rattle.lk_elab_init.specs.declared.givens.PartGiven.{PartGiven}
use Rattle.lk_elab_init.proofs.Giving.{fields_end}
use Rattle.lk_elaborate.specs.LocalParts.{GivesLocalParts}
use Rattle.lk_elab_init.proofs.AbsentCells.{all_absent}
use Rattle.lk_elaborate.proofs.Cells.{text_cells}
use Rattle.lk_elaborate.proofs.Telling.{source_told}

-- ---- the cells of an object are those by other members that are the same of all structs that it holds

cells_by : (f g : ℕ → List Ty) {t : Ty} {path : Path} → ((s : ℕ) → Holds f s t → f s ≡ g s) → IsCell f t path → IsCell g t path
cells_by f g same (scalar is) = scalar is
cells_by f g same (lock is) = lock is
cells_by f g same (element less cell) = element less (cells_by f g (λ s h. same s (in_element h)) cell)
cells_by f g same (member {s = s} {k = k} is cell) = member (ap (λ ts. slice_get ts k) (sym (same s itself)) ∙ is) (cells_by f g (λ r h. same r (in_member k is h)) cell)

cells_back : (f g : ℕ → List Ty) {t : Ty} {path : Path} → ((s : ℕ) → Holds f s t → f s ≡ g s) → IsCell g t path → IsCell f t path
cells_back f g same (scalar is) = scalar is
cells_back f g same (lock is) = lock is
cells_back f g same (element less cell) = element less (cells_back f g (λ s h. same s (in_element h)) cell)
cells_back f g same (member {s = s} {k = k} is cell) =
    let there = ap (λ ts. slice_get ts k) (same s itself) ∙ is in
    member there (cells_back f g (λ r h. same r (in_member k there h)) cell)

absent_by : (f g : ℕ → List Ty) (t : Ty) (parts : List LocalPart) (absent : List AbsentCells) → ((s : ℕ) → Holds f s t → f s ≡ g s) → AreAllAbsent g t parts absent → AreAllAbsent f t parts absent
absent_by f g t parts absent same are =
    let back : (path : Path) → IsAbsent f t parts path → IsAbsent g t parts path = λ path is. record { cell = cells_by f g same is.cell; unnamed = is.unnamed } in
    record {
      each = λ i cells at.
          let e = are.each i cells at in
          record {
            absent = record { cell = cells_back f g same e.absent.cell; unnamed = e.absent.unnamed };
            first = λ path is alike before. e.first path (back path is) alike before;
            named = e.named;
          };
      all = λ path is. are.all path (back path is);
      in_order = are.in_order;
    }

-- ---- the cells that the parts name

module _ (externs : List Name) (unit : Unit) (table : Table) (tables : Tables) where
  one_same : (t : Ty) (p q : Path) (ty : ℕ) (b : Beginning) (x : spec.Beginning) (v : LocalValue) (others : List LocalPart) → BeginsAs externs unit t b x → IsLocalValue tables t x v → p ≡ q →
      cells_named (record { path = p; ty = ty; value = v } ∷ others) ≡ cells_begun q b ++ cells_named others
  one_same t p q ty _ _ _ others (a_value env node) (local_value is) same = ap (λ r. r ∷ cells_named others) same
  one_same t p q ty _ _ _ others (the_bytes {spot = spot} {ordinal = n} {bytes = bytes}) local_bytes same =
      text_cells p ty n spot bytes others ∙ ap (λ r. cells_of_text r 0 bytes ++ cells_named others) same
  one_same t p q ty _ _ _ others the_word local_word same = ap (λ r. r ∷ cells_named others) same

  cells_same : {givens : List PartGiven} {parts : List spec.PartGiven} {named : List LocalPart} → AreGivenAs externs unit table givens parts → AreLocalParts tables parts named → cells_named named ≡ cells_given givens
  cells_same no_more no_locals = refl
  cells_same (next {is = is} {others = others} {part = part} given more) (one_local {is = made} {rest = rest} one those) =
      one_same part.type made.path is.path made.ty is.begins part.begins made.value rest given.begins one.begins (one.path ∙ sym given.path) ∙
      ap (λ cells. cells_begun is.path is.begins ++ cells) (cells_same more those)

-- ---- the initialiser

pub local_init_is : (externs : List Name) (unit : Unit) (old new : Elaborator) → Grows old new → IsToldSource externs unit old → (env : Env) (object : Object) (init : Init) →
    IsNode externs unit env (AnInitialiser (Some object) init) → (tables : Tables) → Leads new tables → (ordinal ty : ℕ) (is : LocalInit) (givens : List PartGiven) → object.type ≡ meaning old.types ty →
    local_by old ordinal ≡ Some is.local → GivesTo old ty [] init givens → GivesLocalParts old new givens is.named →
    ArePut (fields_listed old.types) (cells_given givens) [] (meaning old.types ty) is.absent → IsLocalInit tables env object.type init ordinal is
local_init_is externs unit old new grows told env object init node tables leads ordinal ty is givens type there gives makes put =
    let parts = gives externs unit told env object node type in
    let named = makes externs unit (source_told externs unit old told) tables leads parts.parts parts.are in
    let local = leads.locals ordinal is.local ((grows_on old new grows).locals ordinal is.local there) in
    let listed = fields_listed old.types in
    let settled = λ (s : ℕ) (h : Holds (fields_in env) s object.type).
    told.settled env env object init (AnInitialiser (Some object) init) s node h here ∙ fields_end externs unit old told s in
    record {
      local = local.0;
      is_there = local.1;
      parts = parts.parts;
      gives = parts.given;
      named = named;
      absent = absent_by (fields_in env) listed object.type is.named is.absent settled
          (all_absent listed object.type is.named (cells_given givens) is.absent (cells_same externs unit old.types tables parts.are named)
          (subst (λ t. ArePut listed (cells_given givens) [] t is.absent) (sym type) put));
    }
