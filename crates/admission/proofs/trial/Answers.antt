-- `admission::trial` meets its contract.
use mathlib.Core.Path.{sym}
use Rattle.rules.proofs.Answers.{says_yes, says_no}
use Rattle.refusal.proofs.Graphs.{says_held}
use Rattle.admission.proofs.Trying.{shaped_input, refused_input, known, refused_new, written, unwritten}
use Rattle.admission.proofs.trial.Goals as goal

pub returns-in_err-graph : goal.returns-in_err-graph
returns-in_err-graph c = refused_input _ _ c.from_residual.ensures.1 (shaped_input c.args.offer.shaped c.in_err-graph.ensures).number

pub returns-then-is_some : goal.returns-then-is_some
returns-then-is_some c =
    let t = shaped_input c.args.offer.shaped c.in_ok-graph.ensures in
    let p = t.passed in
    known t p.sound (says_yes _ (says_held p _ c.place_of.result c.place_of.ensures) (sym c.if-is_some.ensures))

pub returns-in_err-slots : goal.returns-in_err-slots
returns-in_err-slots c =
    let t = shaped_input c.args.offer.shaped c.in_ok-graph.ensures in
    let p = t.passed in
    let u = says_no _ (says_held p _ c.place_of.result c.place_of.ensures) (sym c.if-is_some.ensures) in
    refused_new t p.sound u _ _ c.from_residual-in_err-slots.ensures.1 (rw p.bytes at c.in_err-slots.ensures)

pub returns-in_err-count : goal.returns-in_err-count
returns-in_err-count c =
    let t = shaped_input c.args.offer.shaped c.in_ok-graph.ensures in
    let p = t.passed in
    let u = says_no _ (says_held p _ c.place_of.result c.place_of.ensures) (sym c.if-is_some.ensures) in
    let L = rw p.bytes at c.in_err-count.ensures in
    rw L.2
    (unwritten t p.sound u (rw p.bytes at c.in_ok-slots.ensures) c.args.offer.bytes.0 c.args.offer.bytes.1 L.1
    _ _ c.from_residual-in_err-count.ensures.1 L.0)

pub returns : goal.returns
returns c =
    let t = shaped_input c.args.offer.shaped c.in_ok-graph.ensures in
    let p = t.passed in
    let u = says_no _ (says_held p _ c.place_of.result c.place_of.ensures) (sym c.if-is_some.ensures) in
    let L = rw p.bytes at c.in_ok-count.ensures in
    rw L.2 (written t p.sound u (rw p.bytes at c.in_ok-slots.ensures) c.args.offer.bytes.0 c.args.offer.bytes.1 L.1 L.0)
