use Rattle.lk_laws.proofs.OneContent.{one_content}
use Rattle.lk_laws.proofs.flow.contents.Goals as goal

pub returns : goal.returns
returns c = λ program is lowered labels are in_range es edges o b d e walk. one_content program is lowered labels are in_range es edges o b d e walk
