-- That what is asked of an engine is no matter of what it gave out last.
use Rattle.std.proofs.Common.{inl, inr}
use Rattle.ffi_engine.proofs.held.HeldEngine.poll.Goals as goal

pub returns : goal.returns
returns c =
    let is = c.poll_engine.ensures in (
      elim is.0 [
        | inl lost ↦ inl lost
        | inr (going, asked) ↦ inr (
          going,
          record {
            answer = asked.answer;
            outcome = asked.outcome;
            front = asked.front;
            settles = asked.settles;
            stays = asked.stays;
            settled = asked.settled;
            given = asked.given;
            reported = asked.reported;
            traced = asked.traced;
            does = asked.does;
            votes = asked.votes;
            held = asked.held;
            bounded = asked.bounded;
            due_work = asked.due_work;
            works = asked.works;
            provenance = asked.provenance;
            fetch_heights = asked.fetch_heights;
            near = asked.near;
            seen = asked.seen;
            early = asked.early;
            ignored = asked.ignored;
            constants = asked.constants;
            refused = asked.refused;
          },
        )
      ],
      is.1,
      is.2,
      is.3,
    )
