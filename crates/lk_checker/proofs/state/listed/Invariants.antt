use Rattle.std.proofs.Common.{◌≡◌, take, map}
use Rattle.lk_found.specs.Structs.{member_of}
use Rattle.lk_checker.proofs.state.listed.Given as goal

abbrev pub invariant-loop-field : goal.invariant-loop-field
invariant-loop-field l = l.members.items ≡ map member_of (take l.field-index l.fields)
