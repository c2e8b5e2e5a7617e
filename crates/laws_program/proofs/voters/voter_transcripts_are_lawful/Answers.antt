-- How the contract of `voter_transcripts_are_lawful` follows: the lines that are answered are the steps of the member's
-- execution, which is lawful.
use Rattle.laws_program.proofs.VoterExecutions.{voter_transcripts_are_lawful}
use Rattle.laws_program.proofs.voters.voter_transcripts_are_lawful.Goals as goal

pub returns : goal.returns
returns c = voter_transcripts_are_lawful
