use Rattle.std.proofs.Common.{◌≡◌, ◌↔◌, ◌≤◌, ◌^◌, ◌∷◌, ℕ, IsTrue, arith, subst, length, sym}
use Rattle.slt_grammar.proofs.Exchanges.{made-over, call-at, freed-here, held-on, new-apart, new-stands, remade}
use Rattle.slt_grammar.proofs.Detachings.{flat}
use Rattle.slt_grammar.proofs.Inlinings.{length-args}
use Rattle.slt_grammar.proofs.call_at.call_over.Goals as goal

pub loosen-requires-clause-there : goal.loosen-requires-clause-there
loosen-requires-clause-there c =
    let t = c.requires.there in
    (t.2.root, t.2.nodes, t.2.place, t.3, t.2.stands, t.6, t.7)

pub add-call-requires-clause-roots : goal.add-call-requires-clause-roots
add-call-requires-clause-roots c =
    let t = c.requires.there in
    let x = t.2 in
    let D = c.loosen.ensures.loosened x.root x.nodes x.place t.3 x.stands t.6 t.7 in
    D.roots

pub add-call-requires-clause-distinct : goal.add-call-requires-clause-distinct
add-call-requires-clause-distinct c =
    let t = c.requires.there in
    let x = t.2 in
    let D = c.loosen.ensures.loosened x.root x.nodes x.place t.3 x.stands t.6 t.7 in
    D.distinct

pub replace-requires-clause-held : goal.replace-requires-clause-held
replace-requires-clause-held c =
    let t = c.requires.there in
    let x = t.2 in
    let D = c.loosen.ensures.loosened x.root x.nodes x.place t.3 x.stands t.6 t.7 in
    held-on c.args.arena.now c.loosen.new.arena c.add-call.new.self c.args.roots.now c.args.at c.args.arguments.now c.add-call.result (record { key = c.add-call.result; label = c.args.label; kids = length t.3 } ∷ flat t.3) c.requires.held t.0 t.1 x t.4 t.5 t.3 t.6 D (made-over c.loosen.new.arena c.add-call.new.self c.args.arguments.now t.3 c.add-call.result c.args.label D.given (length-args c.args.arguments.now t.3 t.7) c.add-call.ensures.vacant c.add-call.ensures.term c.add-call.ensures.others)

pub replace-requires-clause-there : goal.replace-requires-clause-there
replace-requires-clause-there c =
    let t = c.requires.there in
    let x = t.2 in
    let D = c.loosen.ensures.loosened x.root x.nodes x.place t.3 x.stands t.6 t.7 in
    (t.0, t.1, call-at c.args.arena.now c.loosen.new.arena c.add-call.new.self c.args.roots.now c.args.at c.args.arguments.now c.add-call.result (record { key = c.add-call.result; label = c.args.label; kids = length t.3 } ∷ flat t.3) c.requires.held t.0 t.1 x t.4 t.5 t.3 t.6 D (made-over c.loosen.new.arena c.add-call.new.self c.args.arguments.now t.3 c.add-call.result c.args.label D.given (length-args c.args.arguments.now t.3 t.7) c.add-call.ensures.vacant c.add-call.ensures.term c.add-call.ensures.others), t.4, t.5)

pub replace-requires-clause-apart : goal.replace-requires-clause-apart
replace-requires-clause-apart c =
    let t = c.requires.there in
    let x = t.2 in
    let D = c.loosen.ensures.loosened x.root x.nodes x.place t.3 x.stands t.6 t.7 in
    new-apart c.args.arena.now c.loosen.new.arena c.add-call.new.self c.args.roots.now c.args.at c.args.arguments.now c.add-call.result (record { key = c.add-call.result; label = c.args.label; kids = length t.3 } ∷ flat t.3) c.requires.held t.0 t.1 x t.4 t.5 t.3 t.6 D (made-over c.loosen.new.arena c.add-call.new.self c.args.arguments.now t.3 c.add-call.result c.args.label D.given (length-args c.args.arguments.now t.3 t.7) c.add-call.ensures.vacant c.add-call.ensures.term c.add-call.ensures.others)

pub replace-requires-clause-new : goal.replace-requires-clause-new
replace-requires-clause-new c =
    let t = c.requires.there in
    let x = t.2 in
    let D = c.loosen.ensures.loosened x.root x.nodes x.place t.3 x.stands t.6 t.7 in
    new-stands c.args.arena.now c.loosen.new.arena c.add-call.new.self c.args.roots.now c.args.at c.args.arguments.now c.add-call.result (record { key = c.add-call.result; label = c.args.label; kids = length t.3 } ∷ flat t.3) c.requires.held t.0 t.1 x t.4 t.5 t.3 t.6 D (made-over c.loosen.new.arena c.add-call.new.self c.args.arguments.now t.3 c.add-call.result c.args.label D.given (length-args c.args.arguments.now t.3 t.7) c.add-call.ensures.vacant c.add-call.ensures.term c.add-call.ensures.others)

pub replace-requires-clause-root : goal.replace-requires-clause-root
replace-requires-clause-root c = λ y.
    let t = c.requires.there in
    let x = t.2 in
    let D = c.loosen.ensures.loosened x.root x.nodes x.place t.3 x.stands t.6 t.7 in
    let z = call-at c.args.arena.now c.loosen.new.arena c.add-call.new.self c.args.roots.now c.args.at c.args.arguments.now c.add-call.result (record { key = c.add-call.result; label = c.args.label; kids = length t.3 } ∷ flat t.3) c.requires.held t.0 t.1 x t.4 t.5 t.3 t.6 D (made-over c.loosen.new.arena c.add-call.new.self c.args.arguments.now t.3 c.add-call.result c.args.label D.given (length-args c.args.arguments.now t.3 t.7) c.add-call.ensures.vacant c.add-call.ensures.term c.add-call.ensures.others) in
    let q = (c.limit-after.ensures.sound.once c.args.at y z).1 in
    subst (λ (p : ℕ). IsTrue c.is_root-is_root.result ↔ (p ≡ 0)) (sym q) (c.is_root-is_root.ensures x)

pub returns-clause-changed : goal.returns-clause-changed
returns-clause-changed c = λ i k x gs e f L A.
    let D = c.loosen.ensures.loosened x.root x.nodes x.place gs x.stands L A in
    let M = made-over c.loosen.new.arena c.add-call.new.self c.args.arguments.now gs c.add-call.result c.args.label D.given (length-args c.args.arguments.now gs A) c.add-call.ensures.vacant c.add-call.ensures.term c.add-call.ensures.others in
    let R = c.replace.ensures.changed i k (call-at c.args.arena.now c.loosen.new.arena c.add-call.new.self c.args.roots.now c.args.at c.args.arguments.now c.add-call.result (record { key = c.add-call.result; label = c.args.label; kids = length gs } ∷ flat gs) c.requires.held i k x e f gs L D M) (record { key = c.add-call.result; label = c.args.label; kids = length gs } ∷ flat gs) e f M.term in
    record { held = R.held; bodies = remade c.args.arena.now c.loosen.new.arena c.add-call.new.self c.args.roots.now c.args.at c.args.arguments.now c.add-call.result (record { key = c.add-call.result; label = c.args.label; kids = length gs } ∷ flat gs) c.requires.held i k x e f gs L D M c.replace.new.arena c.replace.new.roots R.bodies }

pub returns-clause-spare : goal.returns-clause-spare
returns-clause-spare c =
    let t = c.requires.there in
    let x = t.2 in
    let D = c.loosen.ensures.loosened x.root x.nodes x.place t.3 x.stands t.6 t.7 in
    let M = made-over c.loosen.new.arena c.add-call.new.self c.args.arguments.now t.3 c.add-call.result c.args.label D.given (length-args c.args.arguments.now t.3 t.7) c.add-call.ensures.vacant c.add-call.ensures.term c.add-call.ensures.others in
    let F = freed-here c.args.arena.now c.loosen.new.arena c.add-call.new.self c.args.roots.now c.args.at c.args.arguments.now c.add-call.result (record { key = c.add-call.result; label = c.args.label; kids = length t.3 } ∷ flat t.3) c.requires.held t.0 t.1 x t.4 t.5 t.3 t.6 D M in
    let z = call-at c.args.arena.now c.loosen.new.arena c.add-call.new.self c.args.roots.now c.args.at c.args.arguments.now c.add-call.result (record { key = c.add-call.result; label = c.args.label; kids = length t.3 } ∷ flat t.3) c.requires.held t.0 t.1 x t.4 t.5 t.3 t.6 D M in
    let small : c.args.arena.now.limit ≤ 2 ^ 32 = omega (arith, c.limit-before.ensures.keyed (let r = c.requires.room in omega arith), c.limit-before.ensures.value) in
    let R = c.replace.ensures.freed t.0 t.1 z t.4 t.5 (omega (arith, small, c.loosen.ensures.limit, c.add-call.ensures.limit)) in
    omega (arith, R, F.0, F.1, c.loosen.ensures.spare, c.add-call.ensures.spare)
