-- No contract of this crate leaves a choice: two outcomes that it allows for the same arguments coincide, in the result and in every
-- byte of a lent room. Said of the contracts themselves, since each is one equation. Assumes nothing.
use Prim.Native.Nat.{ℕ}
use mathlib.Core.Path.{ap}
use mathlib.Core.List.{List}
use Rattle.refusals.specs.Put.{Put}
use Rattle.refusals.proofs.Tied.{Tied, tied}
use Rattle.report.proofs.write_report.Kinds as write-report
use Rattle.report.proofs.write_report.Reads as write-report-reads
use Rattle.report.proofs.report.Kinds as report
use Rattle.report.proofs.report.Reads as report-reads

pub write-report-tied : Tied write-report.ps write-report.r write-report-reads.Post {A = Put × List ℕ} (λ κs x e. (x, e.1.0.now))
write-report-tied =
    tied write-report.ps write-report.r write-report-reads.Post {A = Put × List ℕ} (λ κs x e. (x, e.1.0.now)) _
    (λ κs a x e p. ap (λ w. (w.answer, w.room)) p)

pub report-tied : Tied report.ps report.r report-reads.Post {A = Put × List ℕ} (λ κs x e. (x, e.1.0.now))
report-tied =
    tied report.ps report.r report-reads.Post {A = Put × List ℕ} (λ κs x e. (x, e.1.0.now)) _
    (λ κs a x e p. ap (λ w. (w.answer, w.room)) p)
