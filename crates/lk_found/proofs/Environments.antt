-- Environments behind additions.
use Rattle.std.proofs.Common.{◌≡◌, ◌++◌, List, [], ◌∷◌, refl, sym, append_assoc}
use Rattle.std.proofs.lemmas.List.{append-nil}
use Rattle.lk_typed.specs.Env.{Env, Additions, StructStep, after_step, after_steps, both, extend, nothing}
use Rattle.lk_typed.specs.Env as env

-- ---- additions one after another

steps_then : (structs : List env.Members) (xs ys : List StructStep) → after_steps structs (xs ++ ys) ≡ after_steps (after_steps structs xs) ys
steps_then structs [] ys = refl
steps_then structs (x ∷ xs) ys = steps_then (after_step structs x) xs ys

with_lists : Env → List env.Declared → List env.Tag → List env.Members → Env
with_lists e ds ts ss = record e { declared = ds; tags = ts; structs = ss }

lists_same : (e : Env) {ds es : List env.Declared} {ts us : List env.Tag} {ss rs : List env.Members} → ds ≡ es → ts ≡ us → ss ≡ rs → with_lists e ds ts ss ≡ with_lists e es us rs
lists_same e p q r = cc

pub extend_both : (e : Env) (a b : Additions) → extend (extend e a) b ≡ extend e (both a b)
unfolding with_lists
extend_both e a b = lists_same e (append_assoc e.declared a.declared b.declared) (append_assoc e.tags a.tags b.tags) (sym (steps_then e.structs a.structs b.structs))

pub extend_nothing : (e : Env) → extend e nothing ≡ e
unfolding with_lists
extend_nothing e = lists_same e (append-nil e.declared) (append-nil e.tags) refl
