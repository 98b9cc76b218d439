-- Names whose use is refused: how a row is compared, and the least code of several rows.
use Rattle.std.proofs.Common.{◌≡◌, ◌∙◌, ℕ, List, [], ◌∷◌, Option, Some, None, refl, sym, ap, nat_eq, ◌<◌, ◌+◌, length, get_or, drop}
use Rattle.std.proofs.lemmas.List.{drop_more}
use Rattle.std.specs.Prelude.{◌&&◌}
use Rattle.std.specs.List.{starts_with}
use Rattle.lk_base.specs.declared.code.Code.{Code}
use Rattle.lk_base.specs.declared.code.Code.TheVariants.{Mismatch, Undeclared}
use Rattle.lk_types.specs.Table.{Table}
use Rattle.lk_typed.specs.Codes.{lesser, least_code}
use Rattle.lk_typed.specs.Env.{Name}
use Rattle.lk_typed.specs.Typing.{Broken, if_so, or_at_least}
use Rattle.lk_typed.specs.Typings.{IsVerdict, told_by_row}
use Rattle.lk_typed.specs.Words.{RefusedName, begins_with, codes_in, is_refused_by, silent_unless}
use Rattle.lk_typed.proofs.LeastCodes.{least_of_both, lesser_again}
use Rattle.lk_typed.proofs.Verdicts.{row_verdict}
use Rattle.lk_typed.specs.declared.verdict.Verdict.{Verdict}
use Rattle.lk_check_expr.specs.NameUses.{told_if_refused, told_undeclared}

pub begins_same : (word name : List ℕ) → starts_with nat_eq name word ≡ begins_with word name
begins_same [] name = refl
begins_same (byte ∷ bytes) [] = refl
begins_same (byte ∷ bytes) (first ∷ others) = ap (λ b. nat_eq byte first && b) (begins_same bytes others)

pub lesser_none : (code : Option Code) → lesser code None ≡ code
lesser_none None = refl
lesser_none (Some code) = refl

-- the codes of one row and of those behind it
pub row_more : (row : RefusedName) (rows : List RefusedName) (name : Name) (code : Option Code) →
    lesser (lesser code (least_code (if_so (is_refused_by row name) row.code))) (least_code (codes_in rows name)) ≡ lesser code (least_code (codes_in (row ∷ rows) name))
row_more row rows name code =
    sym (lesser_again code (least_code (if_so (is_refused_by row name) row.code)) (least_code (codes_in rows name))) ∙
    ap (lesser code) (sym (least_of_both (if_so (is_refused_by row name) row.code) (codes_in rows name)))

pub from_index : {A : Type 0} (xs : List A) (i : ℕ) (x : A) → i < length xs → x ≡ get_or xs i x → drop i xs ≡ x ∷ drop (i + 1) xs
from_index xs i x inside is = drop_more xs i x inside ∙ ap (λ y. y ∷ drop (i + 1) xs) (sym is)

-- ---- verdicts by the codes that refuse a name

silent_some : (table : Table) (codes : List Code) (code : Code) (o : Option Code) → least_code codes ≡ lesser (Some code) o →
    IsVerdict table (told_if_refused (lesser (Some code) o)) (Broken codes)
silent_some table codes code None least = least
silent_some table codes code (Some other) least = least

pub silent_verdict : (table : Table) (codes : List Code) → IsVerdict table (told_if_refused (least_code codes)) (silent_unless codes)
silent_verdict table [] = tt
silent_verdict table (code ∷ codes) = silent_some table (code ∷ codes) code (least_code codes) refl

undeclared_some : (table : Table) (codes : List Code) (code : Code) (o : Option Code) → least_code codes ≡ lesser (Some code) o →
    IsVerdict table (told_undeclared (lesser (Some code) o)) (Broken codes)
undeclared_some table codes code None least = least
undeclared_some table codes code (Some other) least = least

pub undeclared_verdict : (table : Table) (codes : List Code) → IsVerdict table (told_undeclared (least_code codes)) (Broken (or_at_least codes Undeclared))
undeclared_verdict table [] = refl
undeclared_verdict table (code ∷ codes) = undeclared_some table (code ∷ codes) code (least_code codes) refl

pub mismatch_verdict : (table : Table) {r : Verdict} {refused : Option Code} (codes : List Code) → r ≡ told_by_row (lesser (Some Mismatch) refused) None →
    refused ≡ least_code codes → IsVerdict table r (Broken (Mismatch ∷ codes))
mismatch_verdict table codes is least = row_verdict table None (Mismatch ∷ codes) None is (ap (lesser (Some Mismatch)) least) tt
