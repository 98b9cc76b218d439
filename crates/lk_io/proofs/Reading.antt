-- How far the reading of a whole file has come.
use Rattle.std.proofs.Common.{ℕ, ◌≡◌, ◌+◌, ◌-◌, ◌<◌, ◌≤◌, List, [], ◌++◌, length, take, drop, Option, Some, refl, sym, ap, ◌∙◌, subst, arith, length-append}
use Rattle.std.specs.Option.{ForSome}
use Rattle.std.proofs.lemmas.List.{length-take, length-take-le, length-drop, take_all}
use Rattle.std.proofs.lemmas.Option.{same_Some}
use Rattle.std.proofs.Math.Seq.{take-add}
use Rattle.lk_io.specs.Shelf.{Gives, IsLonger}

-- the bytes read so far are the front of the file, if it is there
abbrev pub HasRead : Option (List ℕ) → List ℕ → Type 0
HasRead file bytes = ForSome file (λ whole. take (length bytes) whole ≡ bytes)

pub HasRead-none : (file : Option (List ℕ)) → HasRead file []
HasRead-none file whole there = refl

-- one piece more
pub HasRead-more : (file : Option (List ℕ)) (bytes into : List ℕ) (from n : ℕ) → HasRead file bytes
    → Gives file from into n → from ≡ length bytes → n ≤ length into → HasRead file (bytes ++ take n into)
HasRead-more file bytes into from n read gives at within whole there =
    let same = same_Some gives.bytes whole (sym gives.there ∙ there) in
    let here : take n into ≡ take n (drop (length bytes) whole) = gives.same ∙ ap (λ l. take n (drop from l)) same ∙ ap (λ k. take n (drop k whole)) at in
    let long : length (bytes ++ take n into) ≡ length bytes + n = omega (arith, length-append bytes (take n into), length-take-le n into within) in
    ap (λ k. take k whole) long ∙ take-add (length bytes) n whole ∙ ap (λ l. l ++ take n (drop (length bytes) whole)) (read whole there)
    ∙ ap (λ l. bytes ++ l) (sym here)

-- an empty piece is the end, so that the file was read whole
pub HasRead-all : (file : Option (List ℕ)) (bytes into : List ℕ) (from n : ℕ) → HasRead file bytes
    → Gives file from into n → from ≡ length bytes → 0 < length into → n ≡ 0 → file ≡ Some bytes
HasRead-all file bytes into from n read gives at room none =
    let ended : length gives.bytes ≤ length bytes = subst (λ k. length gives.bytes ≤ k) at ((gives.ends room).0 none) in
    gives.there ∙ ap Some (sym (take_all (length bytes) gives.bytes ended) ∙ read gives.bytes gives.there)

-- a piece that passes the limit shows that the file does
pub IsLonger-piece : (file : Option (List ℕ)) (into : List ℕ) (from n limit : ℕ) → Gives file from into n
    → n ≤ length into → limit - from < n → IsLonger file limit
IsLonger-piece file into from n limit gives within past =
    let whole = gives.bytes in
    let long : limit < length whole =
    omega (arith, ap length gives.same, length-take n into, length-take n (drop from whole), length-drop from whole) in
    subst (λ f. IsLonger f limit) (sym gives.there) long

-- a file that was answered is not longer than the limit
pub not_longer : (file : Option (List ℕ)) (bytes : List ℕ) (limit : ℕ) → file ≡ Some bytes → length bytes ≤ limit → IsLonger file limit → ⊥
not_longer file bytes limit there within longer =
    let past : limit < length bytes = subst (λ f. IsLonger f limit) there longer in omega arith
