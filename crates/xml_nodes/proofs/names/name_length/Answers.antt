use Rattle.std.proofs.Common.{◌+◌, rules, sym, ap, ◌∙◌, arith}
use Rattle.bstr.specs.Utf8.{decoded}
use Rattle.xml_nodes.proofs.LongestNames.{goes_on, front_within, some_more, seen_rest, stops_at_none, stops_at_char, stops_at_end, name_length}
use Rattle.xml_nodes.proofs.names.name_length.Goals as goal

pub overflow_add-length : goal.overflow_add-length
overflow_add-length c =
    let next = goes_on c.args.bytes.now c.loop-length.length c.in-Some.c c.decode-first.result.1 c.loop-length.invariant
    (sym (c.decode-first.ensures.char ∙ ap (λ z. (decoded z).char) (seen_rest c.args.bytes.now c.loop-length.length)) ∙ c.in-Some.is)
    (sym (c.decode-first.ensures.size ∙ ap (λ z. (decoded z).size) (seen_rest c.args.bytes.now c.loop-length.length))) (sym c.may_come.ensures ∙ c.if-may_come.true) in
    let within = front_within c.args.bytes.now (c.loop-length.length + c.decode-first.result.1) next in
    search rules

pub loop-length-smaller : goal.loop-length-smaller
loop-length-smaller c =
    let next = goes_on c.args.bytes.now c.loop-length.length c.in-Some.c c.decode-first.result.1 c.loop-length.invariant
    (sym (c.decode-first.ensures.char ∙ ap (λ z. (decoded z).char) (seen_rest c.args.bytes.now c.loop-length.length)) ∙ c.in-Some.is)
    (sym (c.decode-first.ensures.size ∙ ap (λ z. (decoded z).size) (seen_rest c.args.bytes.now c.loop-length.length))) (sym c.may_come.ensures ∙ c.if-may_come.true) in
    let within = front_within c.args.bytes.now (c.loop-length.length + c.decode-first.result.1) next in
    let more = some_more c.args.bytes.now c.loop-length.length c.in-Some.c c.decode-first.result.1 (sym (c.decode-first.ensures.char ∙ ap (λ z. (decoded z).char) (seen_rest c.args.bytes.now c.loop-length.length)) ∙ c.in-Some.is) (sym (c.decode-first.ensures.size ∙ ap (λ z. (decoded z).size) (seen_rest c.args.bytes.now c.loop-length.length))) in
    omega (arith, within, more)

pub loop-length-preserved : goal.loop-length-preserved
loop-length-preserved c =
    goes_on c.args.bytes.now c.loop-length.length c.in-Some.c c.decode-first.result.1 c.loop-length.invariant
    (sym (c.decode-first.ensures.char ∙ ap (λ z. (decoded z).char) (seen_rest c.args.bytes.now c.loop-length.length)) ∙ c.in-Some.is)
    (sym (c.decode-first.ensures.size ∙ ap (λ z. (decoded z).size) (seen_rest c.args.bytes.now c.loop-length.length))) (sym c.may_come.ensures ∙ c.if-may_come.true)

pub returns-in_default : goal.returns-in_default
returns-in_default c =
    name_length c.args.bytes.now c.loop-length.length (front_within c.args.bytes.now c.loop-length.length c.loop-length.invariant) c.loop-length.invariant
    (stops_at_char c.args.bytes.now c.loop-length.length c.in-Some.c (sym (c.decode-first.ensures.char ∙ ap (λ z. (decoded z).char) (seen_rest c.args.bytes.now c.loop-length.length)) ∙ c.in-Some.is) (sym c.may_come.ensures ∙ c.if-may_come.false))

pub returns-in_default-2 : goal.returns-in_default-2
returns-in_default-2 c =
    name_length c.args.bytes.now c.loop-length.length (front_within c.args.bytes.now c.loop-length.length c.loop-length.invariant) c.loop-length.invariant
    (stops_at_none c.args.bytes.now c.loop-length.length (sym (c.decode-first.ensures.char ∙ ap (λ z. (decoded z).char) (seen_rest c.args.bytes.now c.loop-length.length)) ∙ c.in_default.is))

pub returns : goal.returns
returns c =
    name_length c.args.bytes.now c.loop-length.length (front_within c.args.bytes.now c.loop-length.length c.loop-length.invariant) c.loop-length.invariant
    (stops_at_end c.args.bytes.now c.loop-length.length c.loop-length-test.false)
