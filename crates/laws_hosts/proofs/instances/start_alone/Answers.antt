-- For each length of terms.
use Rattle.std.proofs.Common.{ℕ, Result, Ok, Err}
use Rattle.std.specs.Prelude.{IfOk}
use Rattle.laws_hosts.proofs.LoneHosts.{begun_alone}
use Rattle.laws_hosts.proofs.instances.start_alone.Goals as goal

-- what holds at each number holds of the result at each
at_each : {A E : Type 0} (P : ℕ → A → Type 0) (result : Result A E) → ((n : ℕ) → IfOk result (P n))
    → IfOk result (λ x. (n : ℕ) → P n x)
at_each P (Ok x) each = each
at_each P (Err e) each = tt

pub returns : goal.returns
returns g c =
    at_each _ c.start_engine.result (λ term_length.
    begun_alone g.D.PartialEq.eq g.L.Elector.elect g.S.CertificateScheme.certificate_bytes g.S.Scheme.IsSignature
    g.S.CertificateScheme.participants g.S.CertificateScheme.me g.L.Elector.terms term_length c.args.start
    c.start_engine.result c.requires.lone c.requires.genesis c.start_engine.ensures)
