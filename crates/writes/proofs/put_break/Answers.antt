-- `put_break`: writes the break words.
use Rattle.writes.proofs.Pending.{shows_broken}
use Rattle.writes.proofs.Places.{facts}
use lib.ListN.{length-set}
use native.Mathlib.Omega.{arith}
use Rattle.writes.proofs.put_break.Goals as goal

pub bounds-image-2 : goal.bounds-image-2
bounds-image-2 c =
    let f = facts c.requires in
    omega arith

pub bounds-image-3 : goal.bounds-image-3
bounds-image-3 c =
    let f = facts c.requires in
    simp length-set (omega arith)

pub bounds-image-4 : goal.bounds-image-4
bounds-image-4 c =
    let f = facts c.requires in
    simp length-set (omega arith)

pub bounds-image-5 : goal.bounds-image-5
bounds-image-5 c =
    let f = facts c.requires in
    simp length-set (omega arith)

pub returns : goal.returns
returns c =
    let a = c.args in
    shows_broken _ c.requires (record { kind = a.kind; sub = a.sub; sup = a.sup; name = a.name })
