-- What the code's words for the parts of a declaration say, in the words of the rules.
use Rattle.lk_typed.specs.DeclarationRules as spec
use Rattle.lk_check_decl.specs.declared.words.Holder.{Holder}
use Rattle.lk_check_decl.specs.declared.words.Holder.TheVariants as holder
use Rattle.lk_check_decl.specs.declared.words.Scope.{Scope}
use Rattle.lk_check_decl.specs.declared.words.Scope.TheVariants as scope
use Rattle.lk_check_decl.specs.declared.words.Given.{Given}
use Rattle.lk_check_decl.specs.declared.words.Given.TheVariants as given

abbrev pub holder_of : Holder → spec.Holder
holder_of holder.Declaration = spec.InDeclaration
holder_of holder.Definition = spec.InDefinition
holder_of holder.Type = spec.InType

abbrev pub scope_of : Scope → spec.Scope
scope_of scope.File = spec.AtFile
scope_of scope.Block = spec.InBlock

abbrev pub given_of : Given → spec.Given
given_of given.Nothing = spec.Bare
given_of given.Initialiser = spec.Initialised
given_of given.Body = spec.Defined
