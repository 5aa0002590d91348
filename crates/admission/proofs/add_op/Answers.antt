-- `admission::add_op` meets its contract.
use native.Mathlib.Omega.{arith}
use mathlib.Core.List.{[]}
use mathlib.Core.Logic.{inl, inr}
use Rattle.rules.proofs.First.{first_stays}
use Rattle.rules.proofs.Numbers.{code_some}
use Rattle.refusal.proofs.Refusals.{handed_on}
use Rattle.admission.proofs.Adding.{add_room, adds_new, adds_nothing}
use Rattle.admission.proofs.Offering.{begun_none}
use Rattle.admission.proofs.Trying.{tries}
use Rattle.store.proofs.Ops.{sound_laid}
use Rattle.rules.proofs.Bytes.{fit_bytes}
use mathlib.Core.Path.{refl}
use Rattle.admission.proofs.add_op.Goals as goal

pub returns-in_err-offer : goal.returns-in_err-offer
returns-in_err-offer c =
    let e = c.in_err-offer.field-0.0 in
    rw (handed_on c.from_residual.result c.from_residual.ensures.1) (adds_nothing (tries e (first_stays _ _ _ (code_some e) c.in_err-offer.ensures.number) (begun_none _ _ [])) (inl (code_some e)))

pub returns-in_err-tried : goal.returns-in_err-tried
returns-in_err-tried c =
    let P = c.in_ok-offer.ensures.passed in
    let T = rw (P.digest, P.kind, P.member, P.predecessors) at c.in_err-tried.ensures in
    rw (handed_on c.from_residual-in_err-tried.result c.from_residual-in_err-tried.ensures.1) (adds_nothing T.0 (inl (code_some c.in_err-tried.field-0.0)))

pub returns-in_default : goal.returns-in_default
returns-in_default c =
    let P = c.in_ok-offer.ensures.passed in
    let T = rw (c.in_default.is, P.digest, P.kind, P.member, P.predecessors) at c.in_ok-tried.ensures in
    adds_nothing T.0 (inr refl)

pub append-requires-clause-laid : goal.append-requires-clause-laid
append-requires-clause-laid c = let T = rw c.in-Some.is at c.in_ok-tried.ensures in sound_laid (T.0.sound refl)

pub append-requires-clause-room : goal.append-requires-clause-room
append-requires-clause-room c = let T = rw c.in-Some.is at c.in_ok-tried.ensures in add_room T.0

pub returns : goal.returns
returns c =
    let P = c.in_ok-offer.ensures.passed in
    let T = rw (c.in-Some.is, P.digest, P.kind, P.member, P.predecessors) at c.in_ok-tried.ensures in
    adds_new T.0 (omega arith) (fit_bytes c.type_inv.digest) (fit_bytes c.type_inv.member) (rw (c.into.ensures, P.digest, P.kind, P.member) at c.append.ensures)
