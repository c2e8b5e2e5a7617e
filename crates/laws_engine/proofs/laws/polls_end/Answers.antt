-- poll by poll
use Rattle.laws_engine.proofs.PollsEnd.{queue_returned, rests, settled_then}
use Rattle.laws_engine.proofs.laws.polls_end.Goals as goal

pub returns-clause-settles : goal.returns-clause-settles
returns-clause-settles g c = λ polls now out first next last are count poll.
    settled_then polls now out first next last are count poll

pub returns-clause-ends : goal.returns-clause-ends
returns-clause-ends g c = λ polls first last all are. queue_returned polls first last all are

pub returns-clause-rests : goal.returns-clause-rests
returns-clause-rests g c = λ now before first last polls poll all are.
    rests now before first last polls poll all are
