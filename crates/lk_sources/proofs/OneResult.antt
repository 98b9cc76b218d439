-- Sources are accepted with one result, and those that are accepted are not refused.
use Rattle.std.proofs.Common.{◌≡◌, ◌∙◌, ℕ, List, [], ◌∷◌, refl, sym, ap, subst}
use Rattle.lk_base.specs.declared.refusal.Refusal.{Refusal}
use Rattle.lk_lex.specs.Tokens.{start_of}
use Rattle.lk_lex.specs.declared.token.Token.{Token}
use Rattle.lk_lex.specs.Laws.{HasOneList, NeverBoth}
use Rattle.lk_parse_unit.specs.Tree.{HasOneTree}
use Rattle.lk_tree.specs.declared.statement.Unit.{Unit}
use Rattle.lk_typed.specs.Env.{Name}
use Rattle.lk_sources.specs.Accepting.{AreAccepted, AreRefused, stopped, unsupported, without_tree, faulty, IsAccepted, bad_externs, sources_refused, too_long, refused, units_of}
use Rattle.lk_sources.specs.Externs.{Names, listed, externs_text}
use Rattle.lk_sources.specs.Faults.{AreFaultless, AreFaulty}
use Rattle.lk_sources.specs.Faults as fault
use Rattle.lk_sources.specs.Laws.{HasOneResult, NeverRefused, HasOneResultFor, NeverRefusedFor}
use Rattle.lk_sources.specs.Numbers.{number_of, numbered}
use Rattle.lk_sources.specs.Splitting.{AreSplit, nothing, next, StopsIn, here, behind, first_word}
use Rattle.lk_sources.specs.Trees.{AreTrees, HasNoTree}
use Rattle.lk_sources.specs.Trees as tree
use Rattle.lk_sources.specs.declared.reading.Source.{Source}
use Rattle.lk_sources.proofs.OneReading.{has_one_reading, never_too_long}

-- a source has one split and one tree
module _ (has_one_list : HasOneList) (never_both : NeverBoth) (one_tree : HasOneTree) where
  one_split : (names last others : List (List ℕ)) (sources : List Source) (lists more : List (List Token)) → AreSplit names sources lists last → AreSplit names sources more others → (lists ≡ more) × (last ≡ others)
  one_split names last others [] lists more nothing nothing = (refl, refl)
  one_split names last others (s ∷ sources) lists more (next {middle = middle} {tokens = tokens} {lists = rest} split rests) (next {middle = middle'} {tokens = tokens'} {lists = rest'} split' rests') =
      let same = has_one_list names (start_of (number_of names s.name)) s.bytes tokens tokens' middle middle' split split' in
      let behind = one_split middle last others sources rest rest' rests (subst (λ m. AreSplit m sources rest' others) (sym same.1) rests') in
      (ap (λ t. t ∷ rest) same.0 ∙ ap (λ l. tokens' ∷ l) behind.0, behind.1)

  never_stops : (names last others : List (List ℕ)) (sources : List Source) (lists : List (List Token)) (told : Refusal) → AreSplit names sources lists last → StopsIn names sources told others → ⊥
  never_stops names last others [] lists told split stops = elim stops [ ]
  never_stops names last others (s ∷ sources) lists told (next {middle = middle} {tokens = tokens} split rest) (here code spot stops) =
      never_both names (start_of (number_of names s.name)) s.bytes tokens middle code spot others split stops
  never_stops names last others (s ∷ sources) lists told (next {middle = middle} {tokens = tokens} {lists = more} split rest) (behind {middle = middle'} {tokens = tokens'} split' stops) =
      let same = has_one_list names (start_of (number_of names s.name)) s.bytes tokens tokens' middle middle' split split' in
      never_stops middle last others sources more told rest (subst (λ m. StopsIn m sources told others) (sym same.1) stops)

  one_list_of_trees : (sources : List Source) (lists : List (List Token)) (units others : List Unit) → AreTrees sources lists units → AreTrees sources lists others → units ≡ others
  one_list_of_trees [] lists units others tree.nothing tree.nothing = refl
  one_list_of_trees (s ∷ sources) lists units others (tree.next {tokens = tokens} {lists = more} {unit = unit} {units = rest} is rests) (tree.next {unit = unit'} {units = rest'} is' rests') =
      ap (λ u. u ∷ rest) (one_tree 200 200 s.bytes tokens unit unit' is is') ∙ ap (λ l. unit' ∷ l) (one_list_of_trees sources more rest rest' rests rests')

  never_treeless : (sources : List Source) (lists : List (List Token)) (units : List Unit) (told : Refusal) → AreTrees sources lists units → HasNoTree sources lists told → ⊥
  never_treeless [] lists units told trees none = elim none [ ]
  never_treeless (s ∷ sources) lists units told (tree.next {unit = unit} is rests) (tree.here refusal) = refusal.none unit is
  never_treeless (s ∷ sources) lists units told (tree.next {lists = more} {units = rest} is rests) (tree.behind is' none) = never_treeless sources more rest told rests none

  never_faulty : (externs : List Name) (units : List Unit) (told : Refusal) → AreFaultless externs units → AreFaulty externs units told → ⊥
  never_faulty externs [] told all is = elim is [ ]
  never_faulty externs (unit ∷ units) told all (fault.here f first is) = all.0 f first.holds
  never_faulty externs (unit ∷ units) told all (fault.behind none rest) = never_faulty externs units told all.1 rest

  -- ---- sources

  module _ (names last : List (List ℕ)) (externs : List Name) (sources : List Source) (units : List Unit) (accepted : AreAccepted names externs sources last units) where
    one_accepted : (others : List (List ℕ)) (more : List Unit) → AreAccepted names externs sources others more → (units ≡ more) × (last ≡ others)
    one_accepted others more other =
        let same = one_split names last others sources accepted.lists other.lists accepted.split other.split in
        (one_list_of_trees sources accepted.lists units more accepted.trees (subst (λ l. AreTrees sources l more) (sym same.0) other.trees), same.1)

    same_lists : (others : List (List ℕ)) (lists : List (List Token)) → AreSplit names sources lists others → lists ≡ accepted.lists
    same_lists others lists split = sym (one_split names last others sources accepted.lists lists accepted.split split).0

    never_refused_sources : (others : List (List ℕ)) (told : Refusal) → AreRefused names externs sources others told → ⊥
    never_refused_sources others told (stopped stops) = never_stops names last others sources accepted.lists told accepted.split stops
    never_refused_sources others told (unsupported lists split word) =
        let clash = sym word ∙ (ap (first_word sources) (same_lists others lists split) ∙ accepted.supported) in cc
    never_refused_sources others told (without_tree lists split none treeless) =
        never_treeless sources accepted.lists units told accepted.trees (subst (λ l. HasNoTree sources l told) (same_lists others lists split) treeless)
    never_refused_sources others told (faulty lists more split none trees is) =
        let same = one_list_of_trees sources accepted.lists units more accepted.trees (subst (λ l. AreTrees sources l more) (same_lists others lists split) trees) in
        never_faulty externs units told accepted.faultless (subst (λ l. AreFaulty externs l told) (sym same) is)

  names_alike : (one other : List (List ℕ)) → Names one ≡ Names other → one ≡ other
  names_alike one other is = cc

  names_are_one : (externs : List Source) (one other : List Name) → listed (externs_text externs) ≡ Names one → listed (externs_text externs) ≡ Names other → one ≡ other
  names_are_one externs one other first second = names_alike one other (sym first ∙ second)

  pub has_one_result : HasOneResult
  has_one_result names externs sources one other first second =
      let same = names_are_one externs first.listing second.listing first.names_listed second.names_listed in
      let both =
      one_accepted names one.files first.listing sources (units_of one.sources.items) first.is.are other.files (units_of other.sources.items)
      (subst (λ l. AreAccepted names l sources other.files (units_of other.sources.items)) (sym same) second.is.are) in
      record { externs = first.is.listing_is ∙ (same ∙ sym second.is.listing_is); units = both.0; files = both.1 }

  pub never_refused : NeverRefused
  never_refused names externs sources accepted file refusal is (bad_externs why) =
      let clash = sym why.bad ∙ (ap (λ l. listed (externs_text l)) (sym why.are) ∙ is.names_listed) in cc
  never_refused names externs sources accepted file refusal is (sources_refused more listing why) =
      let same = names_are_one externs is.listing more is.names_listed listing in
      never_refused_sources names accepted.files is.listing sources (units_of accepted.sources.items) is.is.are why.last refusal (subst (λ l. AreRefused names l sources why.last refusal) (sym same) why.why)

  -- ---- commands

  moved : (P : List Source → List Source → Type 0) (externs sources others more : List Source) → externs ≡ others → sources ≡ more → P externs sources → P others more
  moved P externs sources others more same same2 holds = subst (λ l. P l more) same (subst (P externs) same2 holds)

  pub has_one_result_for : HasOneResultFor
  has_one_result_for named held one other first second =
      let same = has_one_reading named held first.externs first.others first.sources second.externs second.others second.sources first.read second.read in
      has_one_result (numbered named) second.externs second.sources one other
      (moved (λ e s. IsAccepted (numbered named) e s one) first.externs first.sources second.externs second.sources same.0 same.2 first.is) second.is

  pub never_refused_for : NeverRefusedFor
  never_refused_for named held accepted file refusal is (too_long long told) = never_too_long named held is.externs is.others is.sources file is.read long
  never_refused_for named held accepted file refusal is (refused externs others sources read told) =
      let same = has_one_reading named held is.externs is.others is.sources externs others sources is.read read in
      never_refused (numbered named) externs sources accepted file refusal
      (moved (λ e s. IsAccepted (numbered named) e s accepted) is.externs is.sources externs sources same.0 same.2 is.is) told
