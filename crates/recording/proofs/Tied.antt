-- No contract of this crate leaves a choice: two outcomes that it allows for the same arguments coincide. Said of the contracts themselves,
-- since each is one equation. Assumes nothing.
use Rattle.refusals.proofs.Tied.{Tied, tied}
use Rattle.recording.proofs.Fault.number.Kinds as fault-number
use Rattle.recording.proofs.Fault.number.Reads as fault-number-reads
use Rattle.recording.proofs.is_command.Kinds as is-command
use Rattle.recording.proofs.is_command.Reads as is-command-reads
use Rattle.recording.proofs.is_request.Kinds as is-request
use Rattle.recording.proofs.is_request.Reads as is-request-reads
use Rattle.recording.proofs.Reader.fresh.Kinds as fresh
use Rattle.recording.proofs.Reader.fresh.Reads as fresh-reads
use Rattle.recording.proofs.Reader.byte.Kinds as byte
use Rattle.recording.proofs.Reader.byte.Reads as byte-Reads
use Rattle.recording.proofs.Reader.ended.Kinds as ended
use Rattle.recording.proofs.Reader.ended.Reads as ended-reads
use Rattle.recording.proofs.Reader.taken.Kinds as taken
use Rattle.recording.proofs.Reader.taken.Reads as taken-reads
use Rattle.recording.proofs.taking.rest_at.Kinds as rest_at
use Rattle.recording.proofs.taking.rest_at.Reads as rest-at-reads
use Rattle.recording.proofs.taking.glances_in.Kinds as glances-in
use Rattle.recording.proofs.taking.glances_in.Reads as glances-in-reads
use Rattle.recording.proofs.taking.reader_at.Kinds as reader_at
use Rattle.recording.proofs.taking.reader_at.Reads as reader-at-reads
use Rattle.recording.proofs.taking.record_in.Kinds as record-in
use Rattle.recording.proofs.taking.record_in.Reads as record-in-reads
use Rattle.recording.proofs.taking.record_at.Kinds as record-at
use Rattle.recording.proofs.taking.record_at.Reads as record-at-reads
use Rattle.recording.proofs.judge.Kinds as judge
use Rattle.recording.proofs.judge.Reads as judge-reads

pub fault-number-tied : Tied fault-number.ps fault-number.r fault-number-reads.Post (λ κs x e. x)
fault-number-tied = tied fault-number.ps fault-number.r fault-number-reads.Post (λ κs x e. x) _ (λ κs a x e p. p)

pub is-command-tied : Tied is-command.ps is-command.r is-command-reads.Post (λ κs x e. x)
is-command-tied = tied is-command.ps is-command.r is-command-reads.Post (λ κs x e. x) _ (λ κs a x e p. p)

pub is-request-tied : Tied is-request.ps is-request.r is-request-reads.Post (λ κs x e. x)
is-request-tied = tied is-request.ps is-request.r is-request-reads.Post (λ κs x e. x) _ (λ κs a x e p. p)

pub fresh-tied : Tied fresh.ps fresh.r fresh-reads.Post (λ κs x e. x)
fresh-tied = tied fresh.ps fresh.r fresh-reads.Post (λ κs x e. x) _ (λ κs a x e p. p)

pub byte-tied : Tied byte.ps byte.r byte-Reads.Post (λ κs x e. x)
byte-tied = tied byte.ps byte.r byte-Reads.Post (λ κs x e. x) _ (λ κs a x e p. p)

pub ended-tied : Tied ended.ps ended.r ended-reads.Post (λ κs x e. x)
ended-tied = tied ended.ps ended.r ended-reads.Post (λ κs x e. x) _ (λ κs a x e p. p)

pub taken-tied : Tied taken.ps taken.r taken-reads.Post (λ κs x e. x)
taken-tied = tied taken.ps taken.r taken-reads.Post (λ κs x e. x) _ (λ κs a x e p. p)

pub rest-at-tied : Tied rest_at.ps rest_at.r rest-at-reads.Post (λ κs x e. x)
rest-at-tied = tied rest_at.ps rest_at.r rest-at-reads.Post (λ κs x e. x) _ (λ κs a x e p. p)

pub glances-in-tied : Tied glances-in.ps glances-in.r glances-in-reads.Post (λ κs x e. x)
glances-in-tied = tied glances-in.ps glances-in.r glances-in-reads.Post (λ κs x e. x) _ (λ κs a x e p. p)

pub reader-at-tied : Tied reader_at.ps reader_at.r reader-at-reads.Post (λ κs x e. x)
reader-at-tied = tied reader_at.ps reader_at.r reader-at-reads.Post (λ κs x e. x) _ (λ κs a x e p. p)

pub record-in-tied : Tied record-in.ps record-in.r record-in-reads.Post (λ κs x e. x)
record-in-tied = tied record-in.ps record-in.r record-in-reads.Post (λ κs x e. x) _ (λ κs a x e p. p)

pub record-at-tied : Tied record-at.ps record-at.r record-at-reads.Post (λ κs x e. x)
record-at-tied = tied record-at.ps record-at.r record-at-reads.Post (λ κs x e. x) _ (λ κs a x e p. p)

pub judge-tied : Tied judge.ps judge.r judge-reads.Post (λ κs x e. x)
judge-tied = tied judge.ps judge.r judge-reads.Post (λ κs x e. x) _ (λ κs a x e p. p)
