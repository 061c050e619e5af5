use Rattle.std.proofs.Common.{rules}
use Rattle.cell_threads.proofs.threads.fn.run_in_threads.scope+FnOnce.call_once.Statement.{statement}
use Rattle.cell_threads.proofs.threads.fn.run_in_threads.scope+FnOnce.call_once.Tie as tie

-- what the closure's body requires is what the closure requires: each bound of a worker that is sent is among it
pub call_once_spec : {M : Type 1} → statement M
call_once_spec = tie.close λ a1 a2 a3 a4 a5 a6 a7 a8 a9 a10 a11 a12 a13 a14 a15 a16 a17 a18 a19 a20 a21 a22 a23 a24 a25 a26 a27 a28 a29 a30 a31 a32 a33 a34 a35 a36 a37 a38 a39 a40 a41 a42 a43 a44 a45 a46 a47 a48 a49 a50 a51 a52 a53 a54 a55 a56 a57 a58 a59 a60 a61 a62 a63 _ _ _ _ _ _ _ _ _ _ _ _ _ _ _ _ _ _ _ _ _ _ _ _. tie.spec a1 a2 a3 a4 a5 a6 a7 a8 a9 a10 a11 a12 a13 a14 a15 a16 a17 a18 a19 a20 a21 a22 a23 a24 a25 a26 a27 a28 a29 a30 a31 a32 a33 a34 a35 a36 a37 a38 a39 a40 a41 a42 a43 a44 a45 a46 a47 a48 a49 a50 a51 a52 a53 a54 a55 a56 a57 a58 a59 a60 a61 a62 a63
    (λ c κs within. (within.0, (within.1.0, (within.1.1.0, (within.1.1.1.0, (within.1.1.1.1.0, (within.1.1.1.1.1.0, (within.1.1.1.1.1.1.0, (within.1.1.1.1.1.1.1.0, (within.1.1.1.1.1.1.1.1.0, (within.1.1.1.1.1.1.1.1.1.0, (within.1.1.1.1.1.1.1.1.1.1.0, (within.1.1.1.1.1.1.1.1.1.1.1.0, (within.1.1.1.1.1.1.1.1.1.1.1.1.0, (within.1.1.1.1.1.1.1.1.1.1.1.1.1.0, (within.1.1.1.1.1.1.1.1.1.1.1.1.1.1, (search (rules, c.requires) parts 8, (search (rules, c.requires) parts 8, (search (rules, c.requires) parts 8, (search (rules, c.requires) parts 8, (search (rules, c.requires) parts 8, (search (rules, c.requires) parts 8, (search (rules, c.requires) parts 8, (search (rules, c.requires) parts 8, (search (rules, c.requires) parts 8, (search (rules, c.requires) parts 8, (search (rules, c.requires) parts 8, (search (rules, c.requires) parts 8, (search (rules, c.requires) parts 8, search (rules, c.requires))))))))))))))))))))))))))))))
    (λ c. search rules)
