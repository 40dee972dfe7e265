use Rattle.std.proofs.Common.{inl, inr, refl, arith}
use Rattle.std.proofs.lemmas.Result.{err_from_is_err_and}
use Rattle.plain_tree.specs.Lawful.{IsDocument}
use Rattle.plain_tree.specs.Tree.{Tree, none, more}
use Rattle.slt_grammar.specs.Automata.{hits}
use Rattle.slt_grammar.specs.Coding.{Codes}
use Rattle.slt_grammar.specs.Grammars.{value}
use Rattle.slt_grammar.specs.Keyed.{rules_of}
use Rattle.bulk_rewrite.specs.Refusing.{signs_of}
use Rattle.bulk_rewrite.specs.RenamedAll.{MayRename}
use Rattle.bulk_rewrite.proofs.GrowingNames.{some-grown}
use Rattle.bulk_rewrite.proofs.RenamingAll.{few-nodes, free-may, may-free, signs-are}
use Rattle.bulk_rewrite.proofs.renaming_all.prepare.Goals as goal

pub hits_nothing-requires : goal.hits_nothing-requires
hits_nothing-requires g c =
    let r = c.requires.stands in
    record { run = c.requires.run; small = few-nodes c.args.names.now (value (rules_of c.args.grammar.now.rules)) r.1 r.2.code r.3 }

pub grow_names-requires-clause-small : goal.grow_names-requires-clause-small
grow_names-requires-clause-small g c = let r = c.requires.stands in few-nodes c.args.names.now (value (rules_of c.args.grammar.now.rules)) r.1 r.2.code r.3

pub grow_names-requires-clause-coded : goal.grow_names-requires-clause-coded
grow_names-requires-clause-coded g c = let r = c.requires.stands in (r.1, r.2.code)

pub returns-clause-allowed : goal.returns-clause-allowed
returns-clause-allowed g c = λ values t st.
    let A = g.A.Rising.algebra c.args.automaton.now in
    let W = g.A.Falling.downward c.args.automaton.now in
    let v = value (rules_of c.args.grammar.now.rules) in
    let signs = c.in_ok-signs.signs.items in
    free-may A W c.args.names.now v t st.code st.document c.args.name.now (signs_of signs) (signs-are c.args.names.now c.args.name.now signs c.in_ok-signs.ensures) (c.in_ok-free.ensures.nothing.0 c.if-not-free.false)

pub returns-clause-names : goal.returns-clause-names
returns-clause-names g c = λ values t st. c.in_ok-grow_names.ensures.grown t st.code

pub returns-then-not-free-clause-refused : goal.returns-then-not-free-clause-refused
returns-then-not-free-clause-refused g c = λ values t st.
    let A = g.A.Rising.algebra c.args.automaton.now in
    let W = g.A.Falling.downward c.args.automaton.now in
    let v = value (rules_of c.args.grammar.now.rules) in
    let signs = c.in_ok-signs.signs.items in
    (λ may. let h = c.in_ok-free.ensures.nothing.1 (may-free A W c.args.names.now v t st.code st.document c.args.name.now (signs_of signs) (signs-are c.args.names.now c.args.name.now signs c.in_ok-signs.ensures) may) in let no = c.if-not-free.true in absurd (cc), refl)

pub returns-in_err-signs : goal.returns-in_err-signs
returns-in_err-signs g c =
    let p = err_from_is_err_and c.from_residual.result c.from_residual.ensures.1 in
    rw (p.1, p.2) (record { symbols = tt; allowed = tt; names = tt; refused = λ values t st. inl refl; reads = omega arith; counted = omega arith })

pub returns-in_err-free : goal.returns-in_err-free
returns-in_err-free g c =
    let p = err_from_is_err_and c.from_residual-in_err-free.result c.from_residual-in_err-free.ensures.1 in
    rw (p.1, p.2) (record { symbols = tt; allowed = tt; names = tt; refused = λ values t st. inl refl; reads = omega (arith, c.in_err-free.ensures.reads); counted = omega (arith, c.in_err-free.ensures.counted) })

pub returns-in_err-grow_names : goal.returns-in_err-grow_names
returns-in_err-grow_names g c =
    let p = err_from_is_err_and c.from_residual-in_err-grow_names.result c.from_residual-in_err-grow_names.ensures.1 in
    let A = g.A.Rising.algebra c.args.automaton.now in
    let W = g.A.Falling.downward c.args.automaton.now in
    let v = value (rules_of c.args.grammar.now.rules) in
    let signs = c.in_ok-signs.signs.items in
    let r = c.requires.stands in
    let may : (t : Tree) → Codes c.args.names.now (more t none) v → IsDocument t → MayRename (hits A W v) c.args.name.now t =
    λ t code document. free-may A W c.args.names.now v t code document c.args.name.now (signs_of signs) (signs-are c.args.names.now c.args.name.now signs c.in_ok-signs.ensures) (c.in_ok-free.ensures.nothing.0 c.if-not-free.false) in
    let reads = c.in_err-grow_names.ensures.reads r.1 r.2.code (may r.1 r.2.code r.2.document) in
    rw (p.1, p.2) (record {
      symbols = tt;
      allowed = tt;
      names = tt;
      refused = λ values t st. inr (may t st.code st.document, c.in_err-grow_names.ensures.some t st.code);
      reads = omega (arith, reads, c.in_ok-free.ensures.reads);
      counted = omega (arith, c.in_err-grow_names.ensures.counted, c.in_ok-free.ensures.counted);
    })

pub returns-in_err-symbols : goal.returns-in_err-symbols
returns-in_err-symbols g c =
    let p = err_from_is_err_and c.from_residual-in_err-symbols.result c.from_residual-in_err-symbols.ensures.1 in
    let A = g.A.Rising.algebra c.args.automaton.now in
    let W = g.A.Falling.downward c.args.automaton.now in
    let v = value (rules_of c.args.grammar.now.rules) in
    let signs = c.in_ok-signs.signs.items in
    let r = c.requires.stands in
    let may : (t : Tree) → Codes c.args.names.now (more t none) v → IsDocument t → MayRename (hits A W v) c.args.name.now t =
    λ t code document. free-may A W c.args.names.now v t code document c.args.name.now (signs_of signs) (signs-are c.args.names.now c.args.name.now signs c.in_ok-signs.ensures) (c.in_ok-free.ensures.nothing.0 c.if-not-free.false) in
    let reads = c.in_ok-grow_names.ensures.reads r.1 r.2.code (may r.1 r.2.code r.2.document) in
    rw (p.1, p.2) (record {
      symbols = tt;
      allowed = tt;
      names = tt;
      refused = λ values t st. inr (may t st.code st.document, some-grown _ _ _ (c.in_ok-grow_names.ensures.grown t st.code));
      reads = omega (arith, reads, c.in_ok-free.ensures.reads);
      counted = omega (arith, c.in_ok-grow_names.ensures.counted, c.in_ok-free.ensures.counted);
    })

pub returns-clause-reads : goal.returns-clause-reads
returns-clause-reads g c =
    let A = g.A.Rising.algebra c.args.automaton.now in
    let W = g.A.Falling.downward c.args.automaton.now in
    let v = value (rules_of c.args.grammar.now.rules) in
    let signs = c.in_ok-signs.signs.items in
    let r = c.requires.stands in
    let may = free-may A W c.args.names.now v r.1 r.2.code r.2.document c.args.name.now (signs_of signs) (signs-are c.args.names.now c.args.name.now signs c.in_ok-signs.ensures) (c.in_ok-free.ensures.nothing.0 c.if-not-free.false) in
    omega (arith, c.in_ok-grow_names.ensures.reads r.1 r.2.code may, c.in_ok-free.ensures.reads)
