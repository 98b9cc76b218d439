-- What the numbers of types stand for in tables of which a state is the beginning.
use Rattle.std.proofs.Common.{◌≡◌, ◌∙◌, ◌++◌, ℕ, List, Some, sym, subst}
use Rattle.std.specs.List.{slice_get}
use Rattle.std.proofs.lemmas.Option.{slice_get_within}
use Rattle.lk_types.proofs.GrowLemmas.{get_before}
use Rattle.lk_types.specs.Table.{IsKnown}
use Rattle.lk_types.specs.declared.c_type.CType.{CType}
use Rattle.lk_typed.proofs.Means.{means_meaning}
use Rattle.lk_typed.specs.Elaborated.{InPlace}
use Rattle.lk_typed.specs.Meaning.{meaning, IsReady}
use Rattle.lk_typed.specs.Operands.{node_type}
use Rattle.lk_typed.specs.Tables.{Tables}
use Rattle.lk_typed.specs.Ty.{Ty, Tys, Means, MeanEach}
use Rattle.lk_typed.specs.Ty.Means.{a_void, an_integer, a_thread_id, a_mutex, a_cond, a_pointer, an_array, a_struct, a_function, an_opaque}
use Rattle.lk_typed.specs.Ty.MeanEach.{no_types, a_type_more}
use Rattle.lk_typed.specs.declared.expression.TypedExpr.{TypedExpr}
use Rattle.lk_elaborator.specs.Known.{HasNodeType}
use Rattle.lk_elaborator.specs.Leading.{Leads}
use Rattle.lk_elaborator.specs.Standing.{IsNodeAt, MakesOwn, OpenForm}
use Rattle.lk_elaborator.specs.declared.elaborator.Elaborator.{Elaborator}

module _ (types more : List CType) where
  get_on : (t : ℕ) (form : CType) → slice_get types t ≡ Some form → slice_get (types ++ more) t ≡ Some form
  get_on t form is = get_before types more t (slice_get_within types t form is) ∙ is

  mutual
    pub means_on : {t : ℕ} {a : Ty} → Means types t a → Means (types ++ more) t a
    means_on (a_void p) = a_void (get_on _ _ p)
    means_on (an_integer p) = an_integer (get_on _ _ p)
    means_on (a_thread_id p) = a_thread_id (get_on _ _ p)
    means_on (a_mutex p) = a_mutex (get_on _ _ p)
    means_on (a_cond p) = a_cond (get_on _ _ p)
    means_on (a_pointer p m) = a_pointer (get_on _ _ p) (means_on m)
    means_on (an_array p m) = an_array (get_on _ _ p) (means_on m)
    means_on (a_struct p) = a_struct (get_on _ _ p)
    means_on (a_function p m ms) = a_function (get_on _ _ p) (means_on m) (mean_each_on ms)
    means_on (an_opaque p) = an_opaque (get_on _ _ p)

    mean_each_on : {ts : List ℕ} {xs : Tys} → MeanEach types ts xs → MeanEach (types ++ more) ts xs
    mean_each_on no_types = no_types
    mean_each_on (a_type_more m ms) = a_type_more (means_on m) (mean_each_on ms)

module _ (walk : Elaborator) (tables : Tables) (ready : IsReady walk.types) (leads : Leads walk tables) where
  pub means_led : (t : ℕ) (a : Ty) → IsKnown walk.types t → meaning walk.types t ≡ a → Means tables.types t a
  means_led t a known is =
      subst (Means tables.types t) is
      (subst (λ types. Means types t (meaning walk.types t)) (sym leads.types.1) (means_on walk.types.types leads.types.0 (means_meaning walk.types ready.table_is t known)))

  pub own_node : (p : InPlace) (ty : ℕ) (form : OpenForm) (t : TypedExpr) → HasNodeType walk.types p ty → IsNodeAt p ty form t → MakesOwn tables p form t
  own_node p ty form t has is = (
    has.typing,
    has.found,
    record {
      spot = is.spot;
      ordinal = is.ordinal;
      type = subst (λ n. Means tables.types n (node_type has.typing.type)) (sym is.type) (means_led ty (node_type has.typing.type) has.known has.means);
      made = is.made;
    },
  )
