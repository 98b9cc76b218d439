-- What holds of all initials, one after the other, and the pointers among them that points write.
use Rattle.std.proofs.Common.{ℕ, ◌≡◌, ◌<◌, ◌+◌, ◌≤◌, ◌++◌, ◌∷◌, [], All, None, refl, suc, zero, true, false, List, Some, arith, get_or, ap, inl, inr, length, subst, sym, ◌∙◌}
use Rattle.std.specs.Prelude.{slice_get}
use Rattle.std.proofs.lemmas.Bool.{cases_eq, cases_lt}
use Rattle.std.proofs.lemmas.Option.{get_or_from_slice_get, none-some, slice_get_cases, slice_get_within, slice_get-get_or}
use Rattle.std.proofs.lemmas.List.Elements.{All-nil, All-push}
use Rattle.std.specs.Option.{option_map}
use Rattle.lk_facts.specs.declared.initial.Initial.{Initial}
use Rattle.lk_facts.specs.declared.initial.InitialValue.{InitialValue}
use Rattle.lk_facts.specs.declared.initial.InitialValue.TheVariants as value
use Rattle.lk_facts.specs.declared.program.Program.{Program}
use Rattle.lk_point_statics.specs.Near.{GivesNear, IsWrittenNear}
use Rattle.lk_point_statics.specs.Writing.{AreStaticWrites, AreWritesBefore, IsAmong, Begins, BeginsAt, GivesValue, IsBegun, IsStaticWrite, NoneBegins, WritesAt, needs_write}
use Rattle.lk_point_statics.specs.declared.writes.StaticWrite.{StaticWrite}

-- it holds of each of the first k elements
abbrev pub AllBefore : {X : Type 0} → (X → Type 0) → List X → ℕ → Type 0
AllBefore {X} P xs k = (i : ℕ) (x : X) → i < k → slice_get xs i ≡ Some x → P x

pub one_more : {X : Type 0} (P : X → Type 0) (xs : List X) (k : ℕ) (d : X) → P (get_or xs k d) → AllBefore P xs k → AllBefore P xs (k + 1)
one_more P xs k d holds before i x below at =
    elim (cases_eq i k) [
      | inl same ↦ subst P (get_or_from_slice_get xs k x d (subst (λ j. slice_get xs j ≡ Some x) same at)) holds
      | inr other ↦ before i x (omega arith) at
    ]

-- what is read of a list at a place stands there
pub listed : {X : Type 0} (xs ys : List X) (k : ℕ) (x : X) → xs ≡ ys → k < length xs → x ≡ get_or xs k x → slice_get ys k ≡ Some x
listed xs ys k x same within is = subst (λ zs. slice_get zs k ≡ Some x) same (slice_get-get_or xs k x within ∙ ap Some (sym is))

-- what stands in a list stands in a longer one
kept_got : {X : Type 0} (xs ys : List X) (i : ℕ) (x : X) → slice_get xs i ≡ Some x → slice_get (xs ++ ys) i ≡ Some x
kept_got [] ys i x at = absurd (none-some x at)
kept_got (y ∷ xs) ys zero x at = at
kept_got (y ∷ xs) ys (suc i) x at = kept_got xs ys i x at

last_got : {X : Type 0} (xs : List X) (x : X) → slice_get (xs ++ x ∷ []) (length xs) ≡ Some x
last_got [] x = refl
last_got (y ∷ xs) x = last_got xs x

module _ (program : Program) where
  -- ---- the writes of the points, one point after the other

  pub no_writes : (writes : List StaticWrite) → writes ≡ [] → AreWritesBefore program 0 writes
  no_writes writes is = record {
    each = subst (All (IsStaticWrite program)) (sym is) (All-nil (IsStaticWrite program));
    all = λ q write low. absurd (omega (arith, low));
  }

  pub no_more : (p : ℕ) (writes : List StaticWrite) → AreWritesBefore program p writes → ((write : StaticWrite) → WritesAt program p write → None ≡ Some write) → AreWritesBefore program (p + 1) writes
  no_more p writes before none = record {
    each = before.each;
    all = λ q write low is.
        elim (cases_eq q p) [
          | inl same ↦ absurd (none-some write (none write (subst (λ x. WritesAt program x write) same is)))
          | inr other ↦ before.all q write (omega (arith, low, other)) is
        ];
  }

  pub one_write : (p : ℕ) (old new : List StaticWrite) (write : StaticWrite) → AreWritesBefore program p old → IsStaticWrite program write →
      ((other : StaticWrite) → WritesAt program p other → Some write ≡ Some other) → new ≡ old ++ write ∷ [] → AreWritesBefore program (p + 1) new
  one_write p old new write before is only more = record {
    each = subst (All (IsStaticWrite program)) (sym more) (All-push (IsStaticWrite program) old write before.each is);
    all = λ q other low writes.
        subst (λ xs. IsAmong xs other) (sym more)
        (elim (cases_eq q p) [
          | inl same ↦ (length old, last_got old write ∙ only other (subst (λ x. WritesAt program x other) same writes))
          | inr differs ↦
              let among = before.all q other (omega (arith, low, differs)) writes in
              (among.0, kept_got old (write ∷ []) among.0 other among.1)
        ]);
  }

  writes_within : (q : ℕ) (write : StaticWrite) → WritesAt program q write → q < length program.points
  writes_within q write is =
      elim (slice_get_cases program.points q).1 [
        | inl there ↦ there.1
        | inr past ↦ absurd (none-some _ (sym (ap (option_map (λ point. point.action)) past.1) ∙ is.does))
      ]

  pub all_writes : (p : ℕ) (writes : List StaticWrite) → length program.points ≤ p → AreWritesBefore program p writes → AreStaticWrites program writes
  all_writes p writes end before = record {
    each = before.each;
    all = λ q write is. let within = writes_within q write is in before.all q write (omega (arith, end, within)) is;
  }

  pub not_needed : (initial : Initial) (v : InitialValue) → needs_write v ≡ false → IsWrittenNear program initial v
  not_needed initial (value.Number n) h = tt
  not_needed initial value.Null h = tt
  not_needed initial (value.Function f) h = absurd cc
  not_needed initial (value.Address r path past) h = absurd cc
  not_needed initial value.Ready h = tt

  written_for : (write : StaticWrite) (initial : Initial) (v : InitialValue) → IsStaticWrite program write → GivesNear program write.pointer initial.root initial.path false →
      GivesValue program write.value v → IsWrittenNear program initial v
  written_for write initial (value.Number n) is there gives = tt
  written_for write initial value.Null is there gives = tt
  written_for write initial (value.Function f) is there gives = (write.value, gives, (is.point, write.pointer, is.writes.stands, is.writes.does, there))
  written_for write initial (value.Address r path past) is there gives = (write.value, gives, (is.point, write.pointer, is.writes.stands, is.writes.does, there))
  written_for write initial value.Ready is there gives = tt

  -- what is written is begun
  pub written_by : (write : StaticWrite) (initial : Initial) → IsStaticWrite program write → Begins program initial write → IsBegun program initial
  written_by write initial is begins = written_for write initial initial.value is begins.cell begins.value

  -- the write of a cell
  record IsWriteOf (initial : Initial) (v : InitialValue) : Type 0 where
    pub point : ℕ
    pub write : StaticWrite
    pub writes : WritesAt program point write
    pub cell : GivesNear program write.pointer initial.root initial.path false
    pub value : GivesValue program write.value v

  write_of : (initial : Initial) (v : InitialValue) → needs_write v ≡ true → IsWrittenNear program initial v → IsWriteOf initial v
  write_of initial (value.Number n) needs h = absurd cc
  write_of initial value.Null needs h = absurd cc
  write_of initial (value.Function f) needs h =
      record { point = h.2.0; write = record { pointer = h.2.1; value = h.0 }; writes = record { stands = h.2.2; does = h.2.3 }; cell = h.2.4; value = h.1 }
  write_of initial (value.Address r path past) needs h =
      record { point = h.2.0; write = record { pointer = h.2.1; value = h.0 }; writes = record { stands = h.2.2; does = h.2.3 }; cell = h.2.4; value = h.1 }
  write_of initial value.Ready needs h = absurd cc

  -- where none of the writes is that of a cell, the cell isn't begun
  pub never_begun : (initial : Initial) (writes : List StaticWrite) → AreStaticWrites program writes → needs_write initial.value ≡ true →
      NoneBegins program initial writes 0 (length writes) → IsBegun program initial → ⊥
  never_begun initial writes are needs none begun =
      let own = write_of initial initial.value needs begun in
      let among = are.all own.point own.write own.writes in
      none among.0 (omega arith) (slice_get_within writes among.0 own.write among.1) (own.write, among.1, record { cell = own.cell; value = own.value })

-- of two stretches of writes none is that of the cell
pub none_of_both : (program : Program) (initial : Initial) (writes : List StaticWrite) (middle end : ℕ) → NoneBegins program initial writes 0 middle → NoneBegins program initial writes middle end →
    NoneBegins program initial writes 0 end
none_of_both program initial writes middle end below above i low less =
    elim (cases_lt i middle) [
      | inl before ↦ below i low before
      | inr behind ↦ above i behind less
    ]
