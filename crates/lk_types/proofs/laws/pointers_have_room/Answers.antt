use Rattle.lk_types.proofs.RoomLemmas.{pointers_have_room}
use Rattle.lk_types.proofs.laws.pointers_have_room.Goals as goal

pub returns : goal.returns
returns c = pointers_have_room
