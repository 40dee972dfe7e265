use Rattle.std.proofs.Common.{◌≡◌, ℕ, ap, sym, subst, arith}
use Rattle.slt_grammar.specs.declared.digram.Digram.{Digram}
use Rattle.digram_index.specs.Frequency.{IsFrequency}
use Rattle.digram_index.specs.Linked.{Linked, cell_count, digram_of}
use Rattle.digram_index.specs.Settled.{HasApart, IsWithin}
use Rattle.digram_index.specs.Spots.{IsOften}
use Rattle.digram_index.proofs.Kept.{indexed-occurs}
use Rattle.digram_index.proofs.PlainDigrams.{three-apart}
use Rattle.digram_index.proofs.Rates.{best-digram}
use Rattle.digram_index.proofs.Tops.{are-cells, are-all-cells, often-member, often-apart, often-within, apart-pattern, digram-is}
use Rattle.digram_index.proofs.index.Index.frequent.Goals as goal

pub label-requires : goal.label-requires
label-requires c =
    let C = are-cells c.args.grammar.now c.args.self.now c.self.inside.numbers c.self.inside.entries (indexed-occurs c.args.grammar.now c.args.self.now c.requires.index) (ap (λ (l : Linked). l.cells) c.self.view_is) in
    (often-member c.args.grammar.now c.limit-limit.ensures.keyed c.self.inside.numbers c.self.inside.entries c.self.invariant.known C c.args.least (let l = c.requires.least.0 in omega arith) c.in-Some.pattern c.in-Some.ensures.some.1).1.upper

pub label-requires-in-Some : goal.label-requires-in-Some
label-requires-in-Some c =
    let C = are-cells c.args.grammar.now c.args.self.now c.self.inside.numbers c.self.inside.entries (indexed-occurs c.args.grammar.now c.args.self.now c.requires.index) (ap (λ (l : Linked). l.cells) c.self.view_is) in
    (often-member c.args.grammar.now c.limit-limit.ensures.keyed c.self.inside.numbers c.self.inside.entries c.self.invariant.known C c.args.least (let l = c.requires.least.0 in omega arith) c.in-Some.pattern c.in-Some.ensures.some.1).1.lower

pub returns-in-Some-clause-within : goal.returns-in-Some-clause-within
returns-in-Some-clause-within c =
    let C = are-cells c.args.grammar.now c.args.self.now c.self.inside.numbers c.self.inside.entries (indexed-occurs c.args.grammar.now c.args.self.now c.requires.index) (ap (λ (l : Linked). l.cells) c.self.view_is) in
    let d = digram-is c.in-Some.pattern.place _ _ c.label.result c.label-in-Some.result c.label.ensures c.label-in-Some.ensures in
    subst (λ (x : Digram). IsWithin c.args.grammar.now.rules c.args.bound x) d (often-within c.args.grammar.now c.limit-limit.ensures.keyed c.self.inside.numbers c.self.inside.entries c.self.invariant.known C c.args.least (let l = c.requires.least.0 in omega arith) c.in-Some.pattern c.args.bound c.in-Some.ensures.some.0 c.in-Some.ensures.some.1)

pub returns-in-Some-clause-apart : goal.returns-in-Some-clause-apart
returns-in-Some-clause-apart c =
    let C = are-cells c.args.grammar.now c.args.self.now c.self.inside.numbers c.self.inside.entries (indexed-occurs c.args.grammar.now c.args.self.now c.requires.index) (ap (λ (l : Linked). l.cells) c.self.view_is) in
    let d = digram-is c.in-Some.pattern.place _ _ c.label.result c.label-in-Some.result c.label.ensures c.label-in-Some.ensures in
    subst (λ (x : Digram). HasApart c.args.grammar.now.rules x c.args.least) d (often-apart c.args.grammar.now c.limit-limit.ensures.keyed c.self.inside.numbers c.self.inside.entries c.self.invariant.known C c.args.least c.requires.least.1 c.in-Some.pattern c.in-Some.ensures.some.1)

pub returns-in-None-clause-none : goal.returns-in-None-clause-none
returns-in-None-clause-none c = λ d w h.
    let C = are-cells c.args.grammar.now c.args.self.now c.self.inside.numbers c.self.inside.entries (indexed-occurs c.args.grammar.now c.args.self.now c.requires.index) (ap (λ (l : Linked). l.cells) c.self.view_is) in
    let A = are-all-cells c.args.grammar.now c.args.self.now c.self.inside.numbers c.self.inside.entries c.requires.index (ap (λ (l : Linked). l.cells) c.self.view_is) in
    let p = apart-pattern c.args.grammar.now c.limit-limit.ensures.keyed c.self.inside.numbers c.self.inside.entries c.self.invariant.known C A d c.args.bound c.args.least (let l = c.requires.least.0 in omega arith) w h in
    c.in-None.ensures.none p.0 p.1.0 p.1.1.0

pub returns-in-Some-clause-most : goal.returns-in-Some-clause-most
returns-in-Some-clause-most c = λ three e m n w h F G.
    let q = ap (λ (l : Linked). l.cells) c.self.view_is in
    let C = are-cells c.args.grammar.now c.args.self.now c.self.inside.numbers c.self.inside.entries (indexed-occurs c.args.grammar.now c.args.self.now c.requires.index) q in
    let A = are-all-cells c.args.grammar.now c.args.self.now c.self.inside.numbers c.self.inside.entries c.requires.index q in
    let d = digram-is c.in-Some.pattern.place _ _ c.label.result c.label-in-Some.result c.label.ensures c.label-in-Some.ensures in
    let l : c.args.least ≡ 3 = let k = c.requires.least.1 in omega arith in
    let O = subst (λ (k : ℕ). IsOften k c.in-Some.pattern c.self.inside.entries.spots) l c.in-Some.ensures.some.1 in
    best-digram c.args.grammar.now c.limit-limit.ensures.keyed c.self.inside.numbers c.self.inside.entries c.self.invariant.known C A c.args.bound c.in-Some.pattern O (c.in-Some.ensures.most three)
    e (three-apart c.args.grammar.now c.limit-limit.ensures.keyed e h) w m n
    (subst (λ cs. IsFrequency (digram_of c.self.inside.numbers.numbers c.in-Some.pattern) (cell_count (digram_of c.self.inside.numbers.numbers c.in-Some.pattern) cs) m) (sym q)
    (subst (λ (x : Digram). IsFrequency x (cell_count x c.args.self.now.cells) m) (sym d) F))
    (subst (λ cs. IsFrequency e (cell_count e cs) n) (sym q) G)
