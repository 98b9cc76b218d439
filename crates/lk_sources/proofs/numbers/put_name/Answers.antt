use Rattle.std.proofs.Common.{◌≡◌, ◌<◌, List, ℕ, Some, Ok, Err, Result, IfOk, length, slice_get, subst}
use Rattle.std.proofs.lemmas.Option.{slice_get_within}
use Rattle.lk_base.specs.declared.memory.NoMemory.{NoMemory}
use Rattle.lk_sources.proofs.Numbered.{put_place}
use Rattle.lk_sources.specs.Numbers.{number_of}
use Rattle.lk_sources.proofs.numbers.put_name.Goals as goal

within : (r : Result ℕ NoMemory) (names : List (List ℕ)) (name : List ℕ) → IfOk r (λ i. slice_get names i ≡ Some name) → IfOk r (λ i. i < length names)
within (Ok i) names name there = slice_get_within names i name there
within (Err e) names name there = tt

pub returns-clause-number : goal.returns-clause-number
returns-clause-number c =
    subst (λ name. IfOk c.put.result (λ number. number ≡ number_of c.args.files.now name)) c.in_ok-name.ensures
    (put_place c.put.result c.args.files.now c.put.new.self c.in_ok-name.name c.put.ensures.number c.put.ensures.ok c.put.ensures.different)

pub returns-clause-within : goal.returns-clause-within
returns-clause-within c = within c.put.result c.put.new.self c.in_ok-name.name c.put.ensures.number
