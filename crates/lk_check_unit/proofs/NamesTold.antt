-- Names that are declared between nodes, as they are recorded.
use Rattle.std.proofs.Common.{◌≡◌, ◌∙◌, ◌⊎◌, ◌++◌, ℕ, Bool, true, false, List, [], ◌∷◌, Option, Some, None, refl, sym, ap, subst, inl, inr, append_assoc}
use Rattle.std.specs.Prelude.{IfSome, if◌then◌else◌}
use Rattle.std.specs.Option.{option_map}
use Rattle.std.proofs.lemmas.Slice.Eq.{bytes_eq-Decides}
use Rattle.lk_types.specs.Building.{IsLonger, IsTable}
use Rattle.lk_types.specs.Table.{Table, IsKnown}
use Rattle.lk_base.specs.declared.spot.Spot.{Spot}
use Rattle.lk_typed.specs.Declarations.{given_by, one_name}
use Rattle.lk_typed.specs.Entities.{DeclaresName, NameDeclared}
use Rattle.lk_typed.specs.Env.{Additions, Declared, Env, Name, both, extend, is_name, latest, look_up, or_else}
use Rattle.lk_typed.specs.Meaning.{meaning}
use Rattle.lk_typed.specs.Names.{IsKnownMeaning, meaning_in}
use Rattle.lk_typed.specs.NodeParts.{parts}
use Rattle.lk_typed.specs.Nodes.{Node, Placed, at}
use Rattle.lk_typed.specs.Stands.{IsIn as IsAmong}
use Rattle.lk_typed.specs.Stands.Stands.{here}
use Rattle.lk_typed.specs.Told.{Named}
use Rattle.lk_typed.specs.Ty.{Ty}
use Rattle.lk_typed.specs.declared.names.Declared.{Declared as CodeDeclared}
use Rattle.lk_typed.specs.declared.names.Meaning.{Meaning}
use Rattle.lk_tree.specs.declared.declaration.Init.{Init}
use Rattle.lk_typed.specs.declared.unit.StructTag.{StructTag}
use Rattle.lk_found.specs.Recorded.{Recorded, with_declared}
use Rattle.lk_found.specs.Truth.{IsSoInside, IsOfTag, NoTag}
use Rattle.lk_found.specs.Findings.{IsDeclaredAs, IsOfName}
use Rattle.lk_found.specs.declared.records.DeclaredHere.{DeclaredHere}
use Rattle.lk_found.proofs.Entries.{AreNodesOf, among_first, among_second, is_expression, nodes_of_node, put_is, so_among, so_still}
use Rattle.lk_checker.specs.States.{recorded_in}
use Rattle.lk_checker.specs.declared.checker.Checker.{Checker}
use Rattle.lk_check_walk.specs.Walks.{TellsTruth, TellsOwn}
use Rattle.lk_check_walk.proofs.Truth.{declared_longer, name_longer, told_of_node, told_still, told_then}
use Rattle.lk_check_unit.specs.Declaring.{IsRecordedAs, PutsDeclared, type_recorded}
use Rattle.lk_check_unit.specs.InitDeclarators.{PutsIfNamed}
use Rattle.lk_check_unit.specs.Later.{IsOneOf, TellsNaming, undeclared, TellsNamingOf}

-- ---- a declared name is found behind its declaration

last_is : {A : Type 0} (test : A → Bool) (xs : List A) (x : A) → test x ≡ true → latest test (xs ++ x ∷ []) ≡ Some x
last_is test [] x is = ap (λ b. or_else None (if b then Some x else None)) is
last_is test (y ∷ xs) x is = ap (λ o. or_else o (if test y then Some y else None)) (last_is test xs x is)

same_name_is : (name : Name) → is_name name name ≡ true
same_name_is name = (bytes_eq-Decides name name).1 refl

pub found_behind : (env : Env) (a : Additions) (d : Declared) → look_up (extend env (both a (one_name d))) d.name ≡ Some d
found_behind env a d =
    ap (latest (λ (x : Declared). is_name x.name d.name)) (sym (append_assoc env.declared a.declared (d ∷ []))) ∙
    last_is (λ (x : Declared). is_name x.name d.name) (env.declared ++ a.declared) d (same_name_is d.name)

pub found_alone : (env : Env) (d : Declared) → look_up (extend env (one_name d)) d.name ≡ Some d
found_alone env d = last_is (λ (x : Declared). is_name x.name d.name) env.declared d (same_name_is d.name)

-- ---- what is recorded

pub recorded_as : (table : Table) (m : Meaning) (declared : CodeDeclared) (d : Declared) (o : Option ℕ) → meaning_in table m ≡ d.meaning → IsKnownMeaning table m → declared.linkage ≡ d.linkage →
    declared.defines ≡ d.defines → IfSome o (IsKnown table) →
    IsRecordedAs table (option_map (λ ty. record { meaning = m; linkage = declared.linkage; defines = declared.defines; ty = ty }) o) d (option_map (meaning table) o)
recorded_as table m declared d None means known_meaning linkage defines known = tt
recorded_as table m declared d (Some t) means known_meaning linkage defines known =
    (meaning table t, refl, λ spot. record { meaning_is = means; known_meaning = known_meaning; linkage = linkage; defines = defines; known = known; type = refl })

pub not_defined : (init : Option Init) (made whole : Option Ty) → type_recorded (given_by init) made whole ≡ whole
not_defined None made whole = refl
not_defined (Some init) made whole = refl

pub puts_behind : (old middle new : Checker) (d : Declared) (t : Option Ty) → recorded_in middle ≡ recorded_in old → PutsDeclared middle new d t → PutsDeclared old new d t
puts_behind old middle new d t same puts = record { here = puts.here; same = puts.same ∙ ap (with_declared d.ordinal puts.here) same; is = puts.is }

-- all but the declared names
others_same : (n : ℕ) (o : Option DeclaredHere) (r : Recorded) (declared : List (ℕ × DeclaredHere)) → ◌≡◌ {A = Recorded} (record (with_declared n o r) { declared = declared }) (record r { declared = declared })
others_same n None r declared = refl
others_same n (Some d) r declared = refl

-- ---- in nodes

module _ (Tag : ℕ → StructTag → Type 0) (Own : NameDeclared → Type 0) (at_end : Env) where
  -- no name is declared between them
  pub naming_none : (old new : Checker) (ps : List Placed) → TellsOwn Tag at_end old new ps → TellsNamingOf Tag Own at_end old new ps
  naming_none old new ps truth = record {
    others = record {
      founds = truth.founds;
      named = truth.named;
      meant = truth.meant;
      initialisers = truth.initialisers;
      uses = truth.uses;
      taken = truth.taken;
      declared = λ n d h. inl h;
      tags = truth.tags;
    };
    names = λ n d h. of n d (truth.declared n d h);
  }
    where
      of : (n : ℕ) (d : DeclaredHere) → IsAmong (n, d) old.records.declared ⊎ IsSoInside at_end ps (IsOfName new.types n d) →
          IsAmong (n, d) old.records.declared ⊎ (IsSoInside at_end ps (IsOfName new.types n d) ⊎ IsOneOf Own new.types n d)
      of n d (inl h) = inl h
      of n d (inr so) = inr (inl so)

  own_longer : (old new : Table) → IsTable old → IsLonger old new → (n : ℕ) (d : DeclaredHere) → IsOneOf Own old n d → IsOneOf Own new n d
  own_longer old new good longer n d h = record { name = h.name; own = h.own; number = h.number; declared_as = declared_longer old new good longer d h.name h.declared_as }

  -- nothing is recorded behind them
  pub naming_still : (old middle new : Checker) (ps : List Placed) → IsTable middle.types → IsLonger middle.types new.types → recorded_in new ≡ recorded_in middle → TellsNamingOf Tag Own at_end old middle ps →
      TellsNamingOf Tag Own at_end old new ps
  naming_still old middle new ps good longer same naming = record {
    others = told_still Tag at_end old (undeclared old middle) (undeclared old new) ps good longer (ap (λ (r : Recorded). record r { declared = old.records.declared }) same) naming.others;
    names = λ n d h. of n d (naming.names n d (subst (λ (r : Recorded). IsAmong (n, d) r.declared) same h));
  }
    where
      of : (n : ℕ) (d : DeclaredHere) → IsAmong (n, d) old.records.declared ⊎ (IsSoInside at_end ps (IsOfName middle.types n d) ⊎ IsOneOf Own middle.types n d) →
          IsAmong (n, d) old.records.declared ⊎ (IsSoInside at_end ps (IsOfName new.types n d) ⊎ IsOneOf Own new.types n d)
      of n d (inl h) = inl h
      of n d (inr (inl so)) = inr (inl (so_still at_end ps (IsOfName middle.types n d) (IsOfName new.types n d) (name_longer middle.types new.types good longer n d) so))
      of n d (inr (inr own)) = inr (inr (own_longer middle.types new.types good longer n d own))

  -- a name is declared behind them
  pub naming_put : (old middle new : Checker) (ps : List Placed) (d : Declared) (t : Option Ty) → IsTable middle.types → IsLonger middle.types new.types → TellsOwn Tag at_end old middle ps →
      PutsDeclared middle new d t → ((ty : Ty) → t ≡ Some ty → (spot : Spot) × Own (record { is = d; spot = spot; type = ty })) → TellsNamingOf Tag Own at_end old new ps
  naming_put old middle new ps d t good longer truth puts own = record {
    others =
        told_still Tag at_end old (undeclared old middle) (undeclared old new) ps good longer
        (ap (λ (r : Recorded). record r { declared = old.records.declared }) puts.same ∙ others_same d.ordinal puts.here (recorded_in middle) old.records.declared)
        (naming_none old middle ps truth).others;
    names = λ n here h. by_here puts.here puts.is n here (subst (λ (r : Recorded). IsAmong (n, here) r.declared) puts.same h);
  }
    where
      Told : ℕ → DeclaredHere → Type 0
      Told n h = IsAmong (n, h) old.records.declared ⊎ (IsSoInside at_end ps (IsOfName new.types n h) ⊎ IsOneOf Own new.types n h)

      before : (n : ℕ) (h : DeclaredHere) → IsAmong (n, h) old.records.declared ⊎ IsSoInside at_end ps (IsOfName middle.types n h) → Told n h
      before n h (inl i) = inl i
      before n h (inr so) = inr (inl (so_still at_end ps (IsOfName middle.types n h) (IsOfName new.types n h) (name_longer middle.types new.types good longer n h) so))

      mine : (n : ℕ) (h x : DeclaredHere) → IsRecordedAs new.types (Some x) d t → n ≡ d.ordinal → h ≡ x → Told n h
      mine n h x is number same =
          let o = own is.0 is.1 in
          inr (inr (record { name = record { is = d; spot = o.0; type = is.0 }; own = o.1; number = number; declared_as = subst (λ h. IsDeclaredAs new.types h (record { is = d; spot = o.0; type = is.0 })) (sym same) (is.2 o.0) }))

      either : (n : ℕ) (h x : DeclaredHere) → IsRecordedAs new.types (Some x) d t → IsAmong (n, h) middle.records.declared ⊎ ((n ≡ d.ordinal) × (h ≡ x)) → Told n h
      either n h x is (inl i) = before n h (truth.declared n h i)
      either n h x is (inr both) = mine n h x is both.0 both.1

      by_here : (o : Option DeclaredHere) → IsRecordedAs new.types o d t → (n : ℕ) (h : DeclaredHere) → IsAmong (n, h) (with_declared d.ordinal o (recorded_in middle)).declared → Told n h
      by_here None is n h i = before n h (truth.declared n h i)
      by_here (Some x) is n h i = either n h x is (put_is at_end middle.records.declared d.ordinal x n h i)

  -- where the declarator may be without a name
  pub naming_put_if_named : (old middle new : Checker) (ps : List Placed) (name : Option Named) (d : Named → Declared) (t : Option Ty) → IsTable middle.types → IsLonger middle.types new.types →
      TellsOwn Tag at_end old middle ps → PutsIfNamed middle new name d t →
      ((named : Named) → name ≡ Some named → (ty : Ty) → t ≡ Some ty → (spot : Spot) × Own (record { is = d named; spot = spot; type = ty })) → TellsNamingOf Tag Own at_end old new ps
  naming_put_if_named old middle new ps None d t good longer truth puts own = naming_still old middle new ps good longer puts (naming_none old middle ps truth)
  naming_put_if_named old middle new ps (Some named) d t good longer truth puts own = naming_put old middle new ps (d named) t good longer truth puts (own named refl)

  -- a node that declares these names, and at whose specifiers these structs begin, by its parts
  pub truth_of_names : (old new : Checker) (env : Env) (node : Node) → is_expression node ≡ false → ((name : NameDeclared) → Own name → DeclaresName env node name) →
      ((s : ℕ) (tag : StructTag) → Tag s tag → IsOfTag s tag env node) → TellsNamingOf Tag Own at_end old new (parts at_end env node) → TellsTruth at_end old new (at env node ∷ [])
  truth_of_names old new env node other declares begins naming =
      let nodes = nodes_of_node at_end env node other in
      let all = told_of_node Tag at_end old (undeclared old new) env node other begins naming.others in
      record {
        founds = all.founds;
        named = all.named;
        meant = all.meant;
        initialisers = all.initialisers;
        uses = all.uses;
        taken = all.taken;
        declared = λ n d h. of nodes n d (naming.names n d h);
        tags = all.tags;
      }
    where
      of : AreNodesOf at_end (parts at_end env node) (at env node ∷ []) → (n : ℕ) (d : DeclaredHere) →
          IsAmong (n, d) old.records.declared ⊎ (IsSoInside at_end (parts at_end env node) (IsOfName new.types n d) ⊎ IsOneOf Own new.types n d) →
          IsAmong (n, d) old.records.declared ⊎ IsSoInside at_end (at env node ∷ []) (IsOfName new.types n d)
      of nodes n d (inl h) = inl h
      of nodes n d (inr (inl so)) = inr (so_among at_end (parts at_end env node) (at env node ∷ []) (IsOfName new.types n d) nodes.among so)
      of nodes n d (inr (inr one)) =
          inr (record {
            outer = at env node;
            among = inl refl;
            env = env;
            node = node;
            stands = here;
            is_so = record { name = one.name; declares = declares one.name one.own; number = one.number; declared_as = one.declared_as };
          })

-- nodes, then others, with the names of both; structs begin before the others alone
pub naming_both : (Tag : ℕ → StructTag → Type 0) (One Two Own : NameDeclared → Type 0) (at_end : Env) (old middle new : Checker) (ps qs : List Placed) → IsTable middle.types → IsLonger middle.types new.types →
    ((name : NameDeclared) → One name → Own name) → ((name : NameDeclared) → Two name → Own name) → TellsNamingOf Tag One at_end old middle ps → TellsNaming Two at_end middle new qs →
    TellsNamingOf Tag Own at_end old new (ps ++ qs)
naming_both Tag One Two Own at_end old middle new ps qs good longer of_one of_two first second = record {
  others = told_then Tag NoTag Tag at_end old (undeclared old middle) (undeclared old new) ps qs good longer (λ s tag own. own) (λ s tag never. absurd never) first.others later;
  names = λ n d h. of n d (second.names n d h);
}
  where
    later : TellsTruth at_end (undeclared old middle) (undeclared old new) qs
    later = record {
      founds = second.others.founds;
      named = second.others.named;
      meant = second.others.meant;
      initialisers = second.others.initialisers;
      uses = second.others.uses;
      taken = second.others.taken;
      declared = λ n d h. inl h;
      tags = second.others.tags;
    }

    Told : ℕ → DeclaredHere → Type 0
    Told n d = IsAmong (n, d) old.records.declared ⊎ (IsSoInside at_end (ps ++ qs) (IsOfName new.types n d) ⊎ IsOneOf Own new.types n d)

    before : (n : ℕ) (d : DeclaredHere) → IsAmong (n, d) old.records.declared ⊎ (IsSoInside at_end ps (IsOfName middle.types n d) ⊎ IsOneOf One middle.types n d) → Told n d
    before n d (inl h) = inl h
    before n d (inr (inl so)) =
        inr (inl (so_among at_end ps (ps ++ qs) (IsOfName new.types n d) (among_first at_end ps qs)
        (so_still at_end ps (IsOfName middle.types n d) (IsOfName new.types n d) (name_longer middle.types new.types good longer n d) so)))
    before n d (inr (inr one)) =
        inr (inr (record { name = one.name; own = of_one one.name one.own; number = one.number; declared_as = declared_longer middle.types new.types good longer d one.name one.declared_as }))

    of : (n : ℕ) (d : DeclaredHere) → IsAmong (n, d) middle.records.declared ⊎ (IsSoInside at_end qs (IsOfName new.types n d) ⊎ IsOneOf Two new.types n d) → Told n d
    of n d (inl h) = before n d (first.names n d h)
    of n d (inr (inl so)) = inr (inl (so_among at_end qs (ps ++ qs) (IsOfName new.types n d) (among_second at_end ps qs) so))
    of n d (inr (inr two)) = inr (inr (record { name = two.name; own = of_two two.name two.own; number = two.number; declared_as = two.declared_as }))

abbrev NoName : NameDeclared → Type 0
NoName name = ⊥

-- nodes between which no name is declared, behind them
pub naming_then : (Tag : ℕ → StructTag → Type 0) (Own : NameDeclared → Type 0) (at_end : Env) (old middle new : Checker) (ps qs : List Placed) → IsTable middle.types → IsLonger middle.types new.types → TellsNamingOf Tag Own at_end old middle ps →
    TellsTruth at_end middle new qs → TellsNamingOf Tag Own at_end old new (ps ++ qs)
naming_then Tag Own at_end old middle new ps qs good longer first second =
    naming_both Tag Own NoName Own at_end old middle new ps qs good longer (λ name own. own) (λ name never. absurd never) first (naming_none NoTag NoName at_end middle new qs second)

-- and before them
pub naming_first : (Tag : ℕ → StructTag → Type 0) (Own : NameDeclared → Type 0) (at_end : Env) (old middle new : Checker) (ps qs : List Placed) → IsTable middle.types → IsLonger middle.types new.types → TellsOwn Tag at_end old middle ps →
    TellsNaming Own at_end middle new qs → TellsNamingOf Tag Own at_end old new (ps ++ qs)
naming_first Tag Own at_end old middle new ps qs good longer first second =
    naming_both Tag NoName Own Own at_end old middle new ps qs good longer (λ name never. absurd never) (λ name own. own) (naming_none Tag NoName at_end old middle ps first) second
