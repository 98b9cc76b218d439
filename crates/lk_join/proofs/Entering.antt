-- The entities of a source are put to the program's, one by one.
use Rattle.std.proofs.Common.{◌≡◌, ◌∙◌, ◌⊎◌, inl, inr, ◌+◌, ◌<◌, ◌≤◌, ◌++◌, ℕ, List, [], ◌∷◌, Some, None, refl, sym, ap, subst, length, length-append, arith}
use Rattle.std.proofs.lemmas.Option.{none-some, same_Some, slice_get_within}
use Rattle.std.proofs.Math.Nat.{eq-or-lt_of_le}
use Rattle.std.specs.List.{slice_get}
use Rattle.lk_link.specs.Sources.{ComesBefore, IsDefinition, Units}
use Rattle.lk_typed.specs.declared.entity.Entity.{Entity}
use Rattle.lk_typed.specs.declared.unit.TypedUnit.{TypedUnit}
use Rattle.lk_typed.specs.declared.whole.WholeEntity.{WholeEntity}
use Rattle.lk_types.proofs.AddLemmas.{last_got}
use Rattle.lk_types.proofs.GrowLemmas.{get_before}
use Rattle.lk_join.specs.Entities.{AreEntityRows, AreGathered, ArePut, IsListed, IsNumberAt, IsSaid, IsSaidAt}
use Rattle.lk_join.specs.Entities.ArePut.{none, more}
use Rattle.lk_join.proofs.Growing.{got}
use Rattle.lk_join.proofs.Saying.{IsThis, gathered_more, push_cases}

-- a source says one thing of an entity
said_same : (row : List ℕ) (place : ℕ × ℕ) (entity : Entity) (a b : WholeEntity) → IsSaid row place entity a → IsSaid row place entity b → a ≡ b
said_same row place entity a b h k =
    let name = h.name ∙ sym k.name in
    let linkage = h.linkage ∙ sym k.linkage in
    let kind = h.kind ∙ sym k.kind in
    let ty = same_Some a.ty b.ty (sym h.type ∙ k.type) in
    let defined = by h.told k.told in
    (λ i. record { name = name i; linkage = linkage i; kind = kind i; ty = ty i; defined = defined i })
  where
    by : (a.defined ≡ None) ⊎ ((a.defined ≡ Some place) × IsDefinition entity) → (b.defined ≡ None) ⊎ ((b.defined ≡ Some place) × IsDefinition entity) → a.defined ≡ b.defined
    by (inl nothing) (inl also) = nothing ∙ sym also
    by (inl nothing) (inr is) = absurd (none-some place (sym nothing ∙ h.defines is.1))
    by (inr is) (inl nothing) = absurd (none-some place (sym nothing ∙ k.defines is.1))
    by (inr is) (inr also) = is.0 ∙ sym also.0

-- ---- rows of numbers

rows_old : (done : List (List ℕ)) (numbers : List ℕ) (s e n : ℕ) → IsNumberAt done s e n → IsNumberAt (done ++ numbers ∷ []) s e n
rows_old done numbers s e n h = (h.0, get_before done (numbers ∷ []) s (slice_get_within done s h.0 h.1) ∙ h.1, h.2)

rows_last : (done : List (List ℕ)) (numbers : List ℕ) (s e n : ℕ) → s ≡ length done → slice_get numbers e ≡ Some n → IsNumberAt (done ++ numbers ∷ []) s e n
rows_last done numbers s e n same at = (numbers, ap (slice_get (done ++ numbers ∷ [])) same ∙ last_got done numbers, at)

rows_cases : (done : List (List ℕ)) (numbers : List ℕ) (s e n : ℕ) → IsNumberAt (done ++ numbers ∷ []) s e n → IsNumberAt done s e n ⊎ ((s ≡ length done) × (slice_get numbers e ≡ Some n))
rows_cases done numbers s e n h = elim (push_cases done numbers h.0 s h.1) [
  | inl old ↦ inl (h.0, old, h.2)
  | inr last ↦ inr (last.0, ap (λ row. slice_get row e) (sym last.1) ∙ h.2)
]

module _ (units : Units) (types : List (List ℕ)) where
  -- what is said, by other rows
  said_by : (rows others : List (List ℕ)) (s e n : ℕ) (is : WholeEntity) → IsNumberAt others s e n → IsSaidAt units types rows s e n is → IsSaidAt units types others s e n is
  said_by rows others s e n is number h = record { number = number; entity = h.entity; of = h.of; row = h.row; row_at = h.row_at; said = h.said }

  -- a source of which nothing is put yet
  gathered_begun : (done : List (List ℕ)) (list : List WholeEntity) → AreGathered (IsSaidAt units types done) list → AreGathered (IsSaidAt units types (done ++ [] ∷ [])) list
  gathered_begun done list h = record {
    one_then = λ s e z d n m a b x y. h.one_then s e z d n m a b (back s e n a x) (back z d m b y);
    one_where = λ s e z d n m a b x y. h.one_where s e z d n m a b (back s e n a x) (back z d m b y);
    kept = λ s e n is x. h.kept s e n is (back s e n is x);
    none_else = λ n here at. let f = h.none_else n here at in record {
      source = f.source;
      number = f.number;
      is = f.is;
      says = forth f.source f.number n f.is f.says;
      type = f.type;
      defined = f.defined;
      first = λ absent z d is x before. f.first absent z d is (back z d n is x) before;
    };
    order = λ s e z d n m a b x y first other before.
        h.order s e z d n m a b (back s e n a x) (back z d m b y) (λ u v is k. first u v is (forth u v n is k)) (λ u v is k. other u v is (forth u v m is k)) before;
  }
    where
      back : (s e n : ℕ) (is : WholeEntity) → IsSaidAt units types (done ++ [] ∷ []) s e n is → IsSaidAt units types done s e n is
      back s e n is x = elim (rows_cases done [] s e n x.number) [
        | inl old ↦ said_by (done ++ [] ∷ []) done s e n is old x
        | inr last ↦ absurd (none-some n last.1)
      ]

      forth : (s e n : ℕ) (is : WholeEntity) → IsSaidAt units types done s e n is → IsSaidAt units types (done ++ [] ∷ []) s e n is
      forth s e n is x = said_by done (done ++ [] ∷ []) s e n is (rows_old done [] s e n x.number) x

  module _ (done : List (List ℕ)) (unit : TypedUnit) (unit_at : slice_get units (length done) ≡ Some unit) (row : List ℕ) (row_at : slice_get types (length done) ≡ Some row) where
    -- one more entity of the source
    module _ (numbers : List ℕ) (entity : Entity) (entity_at : slice_get unit.entities (length numbers) ≡ Some entity) (is : WholeEntity) (said : IsSaid row (length done, length numbers) entity is) (number : ℕ) where
      abbrev before : List (List ℕ)
      before = done ++ numbers ∷ []

      abbrev after : List (List ℕ)
      after = done ++ (numbers ++ number ∷ []) ∷ []

      stays : (s e n : ℕ) (x : WholeEntity) → IsSaidAt units types before s e n x → IsSaidAt units types after s e n x
      stays s e n x h = elim (rows_cases done numbers s e n h.number) [
        | inl old ↦ said_by before after s e n x (rows_old done (numbers ++ number ∷ []) s e n old) h
        | inr last ↦
            said_by before after s e n x
            (rows_last done (numbers ++ number ∷ []) s e n last.0 (get_before numbers (number ∷ []) e (slice_get_within numbers e n last.1) ∙ last.1)) h
      ]

      this : IsSaidAt units types after (length done) (length numbers) number is
      this = record {
        number = rows_last done (numbers ++ number ∷ []) (length done) (length numbers) number refl (last_got numbers number);
        entity = entity;
        of = record { unit = unit; at = unit_at; stands = entity_at };
        row = row;
        row_at = row_at;
        said = said;
      }

      -- what is said at this place is this
      said_here : (s e n : ℕ) (x : WholeEntity) → IsSaidAt units types after s e n x → s ≡ length done → e ≡ length numbers → x ≡ is
      said_here s e n x h same also =
          let unit_is = same_Some h.of.unit unit (sym h.of.at ∙ ap (slice_get units) same ∙ unit_at) in
          let entity_is = same_Some h.entity entity (sym h.of.stands ∙ ap (slice_get h.of.unit.entities) also ∙ ap (λ (u : TypedUnit). slice_get u.entities (length numbers)) unit_is ∙ entity_at) in
          let row_is = same_Some h.row row (sym h.row_at ∙ ap (slice_get types) same ∙ row_at) in
          said_same row (length done, length numbers) entity x is
          (subst (λ r. IsSaid r (length done, length numbers) entity x) row_is
          (subst (λ (y : Entity). IsSaid h.row (length done, length numbers) y x) entity_is
          (subst (λ k. IsSaid h.row (length done, k) h.entity x) also
          (subst (λ k. IsSaid h.row (k, e) h.entity x) same h.said)))) said

      from : (s e n : ℕ) (x : WholeEntity) → IsSaidAt units types after s e n x → IsSaidAt units types before s e n x ⊎ IsThis (length done) (length numbers) number is s e n x
      from s e n x h = elim (rows_cases done (numbers ++ number ∷ []) s e n h.number) [
        | inl old ↦ inl (said_by after before s e n x (rows_old done numbers s e n old) h)
        | inr last ↦ elim (push_cases numbers number n e last.1) [
          | inl there ↦ inl (said_by after before s e n x (rows_last done numbers s e n last.0 there) h)
          | inr it ↦ inr (record { source_is = last.0; number_is = it.0; place_is = it.1; same = said_here s e n x h last.0 it.0 })
        ]
      ]

      earlier : (s e n : ℕ) (x : WholeEntity) → IsSaidAt units types before s e n x → ComesBefore s e (length done) (length numbers)
      earlier s e n x h = elim (rows_cases done numbers s e n h.number) [
        | inl old ↦ inl (slice_get_within done s old.0 old.1)
        | inr last ↦ inr (last.0, slice_get_within numbers e n last.1)
      ]

      gathered_next : (list new : List WholeEntity) → AreGathered (IsSaidAt units types before) list → IsListed list new is number → AreGathered (IsSaidAt units types after) new
      gathered_next list new h put = gathered_more (IsSaidAt units types before) (IsSaidAt units types after) (length done) (length numbers) number is stays this from earlier list new h put

    -- the entities of a list are the first of the source
    abbrev AreTheFirst : List Entity → Type 0
    AreTheFirst entities = (e : ℕ) (entity : Entity) → slice_get entities e ≡ Some entity → slice_get unit.entities e ≡ Some entity

    record IsSourcePut (entities : List Entity) (numbers : List ℕ) (now : List WholeEntity) : Type 0 where
      size : length numbers ≡ length entities
      said : (e n : ℕ) → slice_get numbers e ≡ Some n → (entity : Entity) × (is : WholeEntity) × (slice_get entities e ≡ Some entity) × IsSaid row (length done, e) entity is
      gathered : AreGathered (IsSaidAt units types (done ++ numbers ∷ [])) now

    longer_size : (numbers : List ℕ) (number : ℕ) (entities : List Entity) (entity : Entity) → length numbers ≡ length entities → length (numbers ++ number ∷ []) ≡ length (entities ++ entity ∷ [])
    longer_size numbers number entities entity same = omega (arith, same, length-append numbers (number ∷ []), length-append entities (entity ∷ []))

    source_put : (old : List WholeEntity) → AreGathered (IsSaidAt units types done) old → {entities : List Entity} {numbers : List ℕ} {now : List WholeEntity} →
        ArePut (length done) row old entities numbers now → AreTheFirst entities → IsSourcePut entities numbers now
    source_put old h none first = record { size = refl; said = λ e n at. absurd (none-some n at); gathered = gathered_begun done old h }
    source_put old h (more {entities} {numbers} {now} {new} {entity} {is} {number} put said listed) first =
        let rest = source_put old h put (λ e x at. first e x (get_before entities (entity ∷ []) e (slice_get_within entities e x at) ∙ at)) in
        let size = rest.size in
        let here = first (length numbers) entity (ap (slice_get (entities ++ entity ∷ [])) size ∙ last_got entities entity) in
        record {
          size = longer_size numbers number entities entity size;
          said = λ e n at. elim (push_cases numbers number n e at) [
            | inl before ↦
                let one = rest.said e n before in
                (one.0, one.1, get_before entities (entity ∷ []) e (slice_get_within entities e one.0 one.2) ∙ one.2, one.3)
            | inr last ↦ (
              entity,
              is,
              ap (slice_get (entities ++ entity ∷ [])) (last.0 ∙ size) ∙ last_got entities entity,
              subst (λ k. IsSaid row (length done, k) entity is) (sym last.0) said,
            )
          ];
          gathered = gathered_next numbers entity here is said number now new rest.gathered listed;
        }

  at_most : (i n : ℕ) → i < n + 1 → i ≤ n
  at_most i n less = omega arith

  pub no_entities : AreEntityRows units types [] [] 0
  no_entities = record {
    size = refl;
    known = λ s e entity is less. absurd (omega (arith, less));
    said = λ s e n at. absurd (none-some at.0 at.1);
    gathered = record {
      one_then = λ s e z d n m a b x. absurd (none-some x.number.0 x.number.1);
      one_where = λ s e z d n m a b x. absurd (none-some x.number.0 x.number.1);
      kept = λ s e n is x. absurd (none-some x.number.0 x.number.1);
      none_else = λ n here at. absurd (none-some here at);
      order = λ s e z d n m a b x. absurd (none-some x.number.0 x.number.1);
    };
  }

  -- the entities of one more source
  pub entities_more : (done : List (List ℕ)) (old new : List WholeEntity) (numbers row : List ℕ) (count : ℕ) (unit : TypedUnit) → slice_get units count ≡ Some unit → slice_get types count ≡ Some row →
      AreEntityRows units types done old count → ArePut count row old unit.entities numbers new → AreEntityRows units types (done ++ numbers ∷ []) new (count + 1)
  entities_more done old new numbers row count unit unit_at row_at h put =
      let size = h.size in
      let here = subst (λ k. slice_get units k ≡ Some unit) (sym size) unit_at in
      let row_here = subst (λ k. slice_get types k ≡ Some row) (sym size) row_at in
      let is = source_put done unit here row row_here old h.gathered (subst (λ k. ArePut k row old unit.entities numbers new) (sym size) put) (λ e entity at. at) in
      record {
        size = omega (arith, size, length-append done (numbers ∷ []));
        known = λ s e entity of less. elim (eq-or-lt_of_le (at_most s count less)) [
          | inl last ↦
              let unit_is = same_Some of.unit unit (sym of.at ∙ ap (slice_get units) last ∙ unit_at) in
              let stands = ap (λ (u : TypedUnit). slice_get u.entities e) (sym unit_is) ∙ of.stands in
              let within = slice_get_within unit.entities e entity stands in
              let long = is.size in
              let n = got numbers e (omega (arith, within, long)) in
              (n.0, rows_last done numbers s e n.0 (last ∙ sym size) n.1)
          | inr before ↦ let one = h.known s e entity of before in (one.0, rows_old done numbers s e one.0 one.1)
        ];
        said = λ s e n number. elim (rows_cases done numbers s e n number) [
          | inl old_one ↦ let one = h.said s e n old_one in (one.0, said_by done (done ++ numbers ∷ []) s e n one.0 number one.1)
          | inr last ↦
              let one = is.said e n last.1 in (
                one.1,
                record {
                  number = number;
                  entity = one.0;
                  of = record { unit = unit; at = ap (slice_get units) last.0 ∙ here; stands = one.2 };
                  row = row;
                  row_at = ap (slice_get types) last.0 ∙ row_here;
                  said = subst (λ k. IsSaid row (k, e) one.0 one.1) (sym last.0) one.3;
                },
              )
        ];
        gathered = is.gathered;
      }
