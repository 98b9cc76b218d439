use Rattle.std.proofs.Common.{◌≡◌, ap, sym, inl, inr, Err, true, IsNone, is_some, refl, ◌∙◌, subst}
use Rattle.std.proofs.lemmas.Bool.{false≢true}
use Rattle.lk_io.specs.Calls.{IsNextListed}
use Rattle.std.specs.FinMap as map
use Rattle.lk_io.proofs.FileMaps.{file_of}
use Rattle.lk_io.proofs.mem_shelf.MemShelfShelf.read.Goals as goal

pub returns-in_default-clause-failed : goal.returns-in_default-clause-failed
returns-in_default-clause-failed c =
    let found = file_of c.self.inside.files c.args.name.now c.get.result c.get.ensures.value in
    let missing : IsNone (map.get c.args.self.now.files c.args.name.now) = rw (← c.self.view_is, found, c.in_default.is) refl in
    (λ _. inr missing, λ _. ap Err c.fail-in_default.ensures.fault)

pub returns-clause-failed : goal.returns-clause-failed
returns-clause-failed c =
    let found = file_of c.self.inside.files c.args.name.now c.get.result c.get.ensures.value in
    let there : is_some (map.get c.args.self.now.files c.args.name.now) ≡ true = rw (← c.self.view_is, found, c.in-Some.is) refl in (
      λ e. absurd (cc),
      λ either. absurd (elim either [
        | inl listed ↦ false≢true (sym c.if-begin.false ∙ c.begin.ensures.listed.1 (subst (λ s. IsNextListed s.calls) (sym c.self.view_is) listed))
        | inr missing ↦ false≢true (sym missing ∙ there)
      ]),
    )

pub returns-clause-bytes : goal.returns-clause-bytes
returns-clause-bytes c =
    let found = file_of c.self.inside.files c.args.name.now c.get.result c.get.ensures.value in
    rw (← c.self.view_is, found, c.in-Some.is, ← c.deref.ensures.value) (c.copy_from.ensures.count, c.copy_from.ensures.bytes)
