use Rattle.position_commands.proofs.DefendLaws.{lost-text-one}
use Rattle.position_commands.proofs.defend.lost_text_is_one.Goals as goal

pub returns : goal.returns
returns c = record { one = lost-text-one }
