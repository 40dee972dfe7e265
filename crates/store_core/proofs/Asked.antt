-- What commands with a query come to.
use Rattle.std.proofs.Common.{◌≡◌, ◌≤◌, ◌<◌, ◌+◌, ◌*◌, ◌^◌, inl, inr, ℕ, List, [], ◌∷◌, ◌++◌, length, map, Option, None, Some, Result, Ok, All, refl, sym, ap, ◌∙◌, subst, arith, append-nil}
use Rattle.std.specs.List.{flat_map}
use Rattle.std.specs.Prelude.{IfSome, IsSome}
use Rattle.std.proofs.lemmas.Bool.{cases_lt}
use Rattle.std.proofs.lemmas.List.{length-map, map-append}
use Rattle.std.proofs.lemmas.Option.{same_Some}
use Rattle.plain_tree.specs.Tree.{Tree}
use Rattle.slt_grammar.specs.Algebras.{Algebra}
use Rattle.slt_grammar.specs.Automata.{Downward, nodes_in}
use Rattle.slt_grammar.specs.Grammars.{value}
use Rattle.segment_counts.specs.Weights.{node_weight}
use Rattle.rule_runs.specs.Answering.{Fallen, listed_hits}
use Rattle.rule_runs.specs.Hits.{numbers}
use Rattle.rule_runs.specs.declared.listing.Hit.{Hit}
use Rattle.rule_runs.proofs.Answering.{of-listed}
use Rattle.rule_runs.proofs.Lists.{all-split}
use Rattle.rule_runs.proofs.Sizes.{nodes-weigh}
use Rattle.selecting_automaton.specs.Bounds.{HasFewStates}
use Rattle.selecting_automaton.specs.declared.states.Up.{Up}
use Rattle.selecting_automaton.specs.declared.states.Down.{Down}
use Rattle.selecting_automaton.specs.Sizes.{parts_inside, steps_outside}
use Rattle.selecting_automaton.proofs.QuerySizes.{inside-meant, outside-meant}
use Rattle.tree_outside.specs.Outside.{Gets, GetsFront}
use Rattle.tree_outside.proofs.Beside.{Stays-refl}
use Rattle.text_list.specs.Marking.{mark_of}
use Rattle.value_tests.specs.MarkedInstances.{marked_nodes}
use Rattle.xpath_parser.specs.Comparing.{literals_of}
use Rattle.xpath_parser.specs.Laws.{SpellsOne}
use Rattle.xpath_parser.specs.Limits.{IsLarge, inside, outside}
use Rattle.xpath_parser.specs.Meant.{meant_paths}
use Rattle.xpath_parser.specs.Spelled.{Spells}
use Rattle.xpath_parser.specs.Trees.{Paths}
use Rattle.xpath_parser.specs.Queries as queries
use Rattle.xpath_parser.specs.declared.error.QueryError.{QueryError}
use Rattle.xpath_parser.specs.declared.error.QueryError.TheVariants as error
use Rattle.store_core.specs.Acts.{Act, Query, ShowAll, Count, RenameAll, DeleteAll, query_answered, query_asked, query_edited}
use Rattle.store_core.specs.Errors.{IsNoPlainQuery, IsNoQuery, SaysOfQuery}
use Rattle.store_core.specs.Machine.{Comes, Queries, Counts, PrintsFirst, Refuses}
use Rattle.store_core.specs.Printed.{Gathers, hit_line, hit_lines}
use Rattle.store_core.specs.Reads.{ReadsFew, marked_reads, most_reads}
use Rattle.store_core.specs.Refusals.{Cause, IsReady}
use Rattle.store_core.specs.Selecting.{HasSelected, Selects, SpellsNoQuery, SpellsLarge, SelectsSoMany}
use Rattle.store_core.specs.Texts.{answer_line, line_of, selected_line}
use Rattle.store_core.specs.Worlds.{Parts, AreLawfulParts, State, World, Same, parts_in}
use Rattle.store_core.specs.declared.answer.Answer.{Answer}
use Rattle.store_core.specs.declared.answer.Answer.TheVariants as ok
use Rattle.store_core.specs.declared.answer.Refusal.{Refusal}
use Rattle.store_core.specs.declared.answer.Refusal.TheVariants as no
use Rattle.store_words.specs.declared.words.Settings.{Settings}
use Rattle.store_core.proofs.Gathering.{all-printed}
use Rattle.store_core.proofs.HitLines.{lines-told}
use Rattle.tree_outside.proofs.Sinks.{GetsFront-first}
use Rattle.segment_counts.proofs.Coded.{weight-coded}

pub some-held : (state : State) (parts : Parts) → parts_in state ≡ Some parts → IsSome state
some-held None parts held = absurd cc
some-held (Some h) parts held = refl

-- where a document is held, a command with a query is ready
pub asks_ready : (act : Act) (query : List ℕ) (parts : Parts) (old : World) → query_asked act ≡ Some query → parts_in old.state ≡ Some parts → IsReady act old
asks_ready (Query q) query parts old asked held = record { document = λ needs. some-held old.state parts held; file = λ name same. absurd (cc) }
asks_ready (ShowAll q) query parts old asked held = record { document = λ needs. some-held old.state parts held; file = λ name same. absurd (cc) }
asks_ready (Count q) query parts old asked held = record { document = λ needs. some-held old.state parts held; file = λ name same. absurd (cc) }
asks_ready (RenameAll name q) query parts old asked held = record { document = λ needs. some-held old.state parts held; file = λ name same. absurd (cc) }
asks_ready (DeleteAll q) query parts old asked held = record { document = λ needs. some-held old.state parts held; file = λ name same. absurd (cc) }
asks_ready act query parts old asked held = absurd (cc)

-- why the text is no query is a cause to refuse the command
pub query_refused :
    (refusal : Refusal) (act : Act) (query : List ℕ) (parts : Parts) (old new : World) → IsNoQuery refusal query → query_asked act ≡ Some query → parts_in old.state ≡ Some parts → Cause refusal act old new
query_refused no.BadQuery act query parts old new why asked held = (query, asked, asks_ready act query parts old asked held, why)
query_refused no.LargeQuery act query parts old new why asked held = (query, asked, asks_ready act query parts old asked held, why)
query_refused no.Memory act query parts old new why asked held = asks_ready act query parts old asked held
query_refused refusal act query parts old new why asked held = absurd why

-- why the text is no query is why it is none that compares nothing
pub no-plain-query : (refusal : Refusal) (query : List ℕ) → IsNoQuery refusal query → IsNoPlainQuery refusal query
no-plain-query no.ValueQuery query why = absurd why
no-plain-query no.BadQuery query why = why
no-plain-query no.LargeQuery query why = why
no-plain-query no.Memory query why = tt
no-plain-query refusal query why = absurd why

-- a command that lists, prints or counts the nodes of a query, or edits them, asks for them
pub answered-asked : (act : Act) (query : List ℕ) → query_answered act ≡ Some query → query_asked act ≡ Some query
answered-asked (Query q) query answered = answered
answered-asked (ShowAll q) query answered = answered
answered-asked (Count q) query answered = answered
answered-asked act query answered = absurd (cc)

pub edited-asked : (act : Act) (query : List ℕ) → query_edited act ≡ Some query → query_asked act ≡ Some query
edited-asked (RenameAll name q) query edits = edits
edited-asked (DeleteAll q) query edits = edits
edited-asked act query edits = absurd (cc)

-- so is why it is no query that compares nothing, where the command edits all its nodes
pub plain_refused :
    (refusal : Refusal) (act : Act) (query : List ℕ) (parts : Parts) (old new : World) → IsNoPlainQuery refusal query → query_edited act ≡ Some query → parts_in old.state ≡ Some parts → Cause refusal act old new
plain_refused no.ValueQuery act query parts old new why edits held = (query, edits, asks_ready act query parts old (edited-asked act query edits) held, why)
plain_refused no.BadQuery act query parts old new why edits held = query_refused no.BadQuery act query parts old new why (edited-asked act query edits) held
plain_refused no.LargeQuery act query parts old new why edits held = query_refused no.LargeQuery act query parts old new why (edited-asked act query edits) held
plain_refused no.Memory act query parts old new why edits held = query_refused no.Memory act query parts old new why (edited-asked act query edits) held
plain_refused refusal act query parts old new why edits held = absurd why

-- what an error of the parser says of the text
pub query_says : (e : QueryError) (query : List ℕ) → (e ≡ error.Bad → SpellsNoQuery query) → (e ≡ error.Large → SpellsLarge query) → SaysOfQuery e query
query_says error.Bad query bad large = bad refl
query_says error.Large query bad large = large refl
query_says error.Memory query bad large = tt

-- the value of rules that stand for a document has as few nodes
pub few-nodes : (parts : Parts) → AreLawfulParts parts → nodes_in (value parts.rules) < 2 ^ 63
few-nodes parts are =
    let nodes = nodes-weigh node_weight (λ f. refl) refl refl (value parts.rules) in
    let count = weight-coded parts.names are.tree (value parts.rules) are.stand.code in
    omega (arith, nodes, count, are.small)

not_more : (n : ℕ) → (64 < n → ⊥) → n ≤ 64
not_more n never = elim (cases_lt 64 n) [ inl h ↦ absurd (never h) | inr h ↦ h ]

-- a query that isn't large is within the limits when it is written out
pub within-inside : (bytes : List ℕ) (ps : Paths) (qs : queries.Paths) → Spells bytes ps → (IsLarge ps → ⊥) → qs ≡ meant_paths bytes ps → parts_inside qs ≤ 64
within-inside bytes ps qs spelled small same =
    rw (same, inside-meant bytes ps spelled) (not_more (inside ps) (λ h. small (inr h)))

pub within-outside : (bytes : List ℕ) (ps : Paths) (qs : queries.Paths) → Spells bytes ps → (IsLarge ps → ⊥) → qs ≡ meant_paths bytes ps → steps_outside qs ≤ 64
within-outside bytes ps qs spelled small same =
    rw (same, outside-meant bytes ps) (not_more (outside ps) (λ h. small (inl h)))

-- few states for the query as it is written out are few for what was spelled
pub states-spelled : (bytes : List ℕ) (ps : Paths) (qs : queries.Paths) (A : Algebra Up) (W : Downward Up Down) → Spells bytes ps → qs ≡ meant_paths bytes ps → HasFewStates A W (parts_inside qs) (steps_outside qs) → HasFewStates A W (inside ps) (outside ps)
states-spelled bytes ps qs A W spelled same h =
    subst (λ (n : ℕ). HasFewStates A W n (outside ps)) (ap parts_inside same ∙ inside-meant bytes ps spelled)
    (subst (λ (n : ℕ). HasFewStates A W (parts_inside qs) n) (ap steps_outside same ∙ outside-meant bytes ps) h)

-- a query is large however it is read
pub large-same : (bytes : List ℕ) (ps qs : Paths) → SpellsOne → Spells bytes ps → Spells bytes qs → IsLarge ps → IsLarge qs
large-same bytes ps qs one first second large =
    let same = one bytes ps qs first second in
    elim large [
      | inl many ↦ inl (subst (λ (n : ℕ). 64 < n) same.1 many)
      | inr many ↦ inr (subst (λ (n : ℕ). 64 < n) same.2 many)
    ]

-- where the bytes are a query, its reads are few
pub reads-found : (bytes : List ℕ) (ps : Paths) (parts : Parts) (before now : ℕ) → SpellsOne → Spells bytes ps → (IsLarge ps → ⊥) → now ≤ before + (most_reads parts.rules (inside ps) (outside ps) + marked_reads parts (literals_of (meant_paths bytes ps))) → ReadsFew bytes parts before now
reads-found bytes ps parts before now one spelled small h = record {
  few = λ paths other.
      let same = one bytes ps paths spelled other in
      let reads : ℕ → ℕ → queries.Paths → ℕ = λ i o meant. most_reads parts.rules i o + marked_reads parts (literals_of meant) in
      subst (λ (meant : queries.Paths). now ≤ before + reads (inside paths) (outside paths) meant) same.0
      (subst (λ (n : ℕ). now ≤ before + reads (inside paths) n (meant_paths bytes ps)) same.1 (subst (λ (n : ℕ). now ≤ before + reads n (outside ps) (meant_paths bytes ps)) same.2 h));
  none = λ never. absurd (never ps spelled);
  large = λ is. absurd (small (large-same bytes is.0 ps one is.1 spelled is.2));
}

-- a query with literals reads bodies of marked instances beside
pub marked-some : (parts : Parts) (literals : List (List ℕ)) → (literals ≡ [] → ⊥) → marked_reads parts literals ≡ 4 * marked_nodes parts.names (map (mark_of literals) parts.texts) parts.rules
marked-some parts [] some = absurd (some refl)
marked-some parts (v ∷ vs) some = refl

-- nothing changes
pub same_world : (w : World) → Same w w
same_world w = record { state = refl; files = Stays-refl w.files }

-- nodes that were selected were counted
pub counts_told : (query : List ℕ) (tree : Tree) (count : ℕ) (w : World) → SelectsSoMany query w tree count → Counts query w (answer_line (ok.Selected count)) w
counts_told query tree count w selects = record {
  tree = tree;
  answer = selects.0;
  selects = selects.1;
  same = same_world w;
  printed = ap (λ n. answer_line (ok.Selected n)) selects.2;
}

abbrev IsLined : Parts → Tree → Hit → Type 0
IsLined parts tree hit = hit_line parts.names hit ≡ selected_line tree hit.number

-- and their lines were printed
pub queries_told : (query : List ℕ) (parts : Parts) (tree : Tree) (hits : List Hit) (count : ℕ) (w : World) → Selects query w tree (numbers hits) → All (IsLined parts tree) hits → count ≡ length hits
    → Queries query w (hit_lines parts.names hits ++ answer_line (ok.Selected count)) w
queries_told query parts tree hits count w selects lined e = record {
  tree = tree;
  answer = numbers hits;
  selects = selects;
  same = same_world w;
  printed = ap (λ ls. ls ++ answer_line (ok.Selected count)) (lines-told parts.names tree hits lined) ∙ ap (λ n. flat_map (selected_line tree) (numbers hits) ++ answer_line (ok.Selected n)) (e ∙ sym (length-map hits (λ h. h.number)));
}

-- the lines of some first nodes were printed
pub first_told : (query : List ℕ) (parts : Parts) (tree : Tree) (hits first later : List Hit) (text : List ℕ) (w : World) → hits ≡ first ++ later → Selects query w tree (numbers hits) → All (IsLined parts tree) hits
    → text ≡ hit_lines parts.names first → PrintsFirst selected_line query w text
first_told query parts tree hits first later text w whole selects lined is =
    let split : numbers hits ≡ numbers first ++ numbers later = ap numbers whole ∙ map-append (λ (h : Hit). h.number) first later in
    let front = (all-split (IsLined parts tree) first later (subst (λ (hs : List Hit). All (IsLined parts tree) hs) whole lined)).0 in
    record {
      tree = tree;
      first = numbers first;
      later = numbers later;
      selects = subst (λ (ns : List ℕ). Selects query w tree ns) split selects;
      printed = is ∙ lines-told parts.names tree first front;
    }

-- what was selected in the document that is held, with the lines of its nodes
pub record IsFound (query : List ℕ) (parts : Parts) (w : World) (hits : List Hit) : Type 0 where
  pub tree : Tree
  pub held : parts_in w.state ≡ Some parts
  pub selects : Selects query w tree (numbers hits)
  pub lined : All (IsLined parts tree) hits

-- nodes that were found and listed are those that the query selects
listed-are : (query : List ℕ) (w : World) (tree : Tree) (found : Fallen) → (h : HasSelected query w tree found) → IsSome found.hits → numbers (listed_hits found.hits) ≡ h.answer
listed-are query w tree found h listed = of-listed found.hits (λ hs. numbers hs ≡ h.answer) listed h.listed

pub listed-selected : (query : List ℕ) (w : World) (tree : Tree) (found : Fallen) → HasSelected query w tree found → IsSome found.hits → Selects query w tree (numbers (listed_hits found.hits))
listed-selected query w tree found h listed = subst (Selects query w tree) (sym (listed-are query w tree found h listed)) h.selects

-- and they were counted
pub listed-counted : (query : List ℕ) (w : World) (tree : Tree) (found : Fallen) → HasSelected query w tree found → IsSome found.hits → found.count ≡ length (numbers (listed_hits found.hits))
listed-counted query w tree found h listed = h.count ∙ ap (λ (ns : List ℕ). length ns) (sym (listed-are query w tree found h listed))

pub found-listed : (query : List ℕ) (parts : Parts) (w : World) (tree : Tree) (found : Fallen) → parts_in w.state ≡ Some parts → HasSelected query w tree found → IsSome found.hits → IfSome found.hits (All (IsLined parts tree)) → IsFound query parts w (listed_hits found.hits)
found-listed query parts w tree found held h listed lined = record {
  tree = tree;
  held = held;
  selects = listed-selected query w tree found h listed;
  lined = of-listed found.hits (All (IsLined parts tree)) listed lined;
}

-- so many were listed
pub found-counted : (query : List ℕ) (w : World) (tree : Tree) (found : Fallen) → HasSelected query w tree found → IsSome found.hits → found.count ≡ length (listed_hits found.hits)
found-counted query w tree found h listed = listed-counted query w tree found h listed ∙ length-map (listed_hits found.hits) (λ hit. hit.number)

-- all lines were printed
pub query_done : {E : Type 0} (query : List ℕ) (parts : Parts) (w : World) (hits : List Hit) (before now : Option (List ℕ)) (count : ℕ) (done : Result (Unit {0}) E) (u : Unit {0}) → IsFound query parts w hits → Gathers before now (hit_line parts.names) hits done [] → done ≡ Ok u
    → count ≡ length hits → (text : List ℕ) × Gets before now text × Queries query w (text ++ answer_line (ok.Selected count)) w
query_done query parts w hits before now count done u found g is e =
    let same : hit_lines parts.names hits ≡ g.got = all-printed (hit_line parts.names) hits before now done u is g in
    (g.got, g.gets, subst (λ (text : List ℕ). Queries query w (text ++ answer_line (ok.Selected count)) w) same (queries_told query parts found.tree hits count w found.selects found.lined e))

-- those of some first nodes were
pub query_stops : {E : Type 0} (query : List ℕ) (parts : Parts) (w : World) (hits : List Hit) (before now : Option (List ℕ)) (done : Result (Unit {0}) E) → IsFound query parts w hits → Gathers before now (hit_line parts.names) hits done []
    → (text : List ℕ) × Gets before now text × Refuses (Query query) no.Memory w text w
query_stops query parts w hits before now done found g =
    let first = first_told query parts found.tree hits g.first g.later g.got w g.whole found.selects found.lined (sym (g.bytes ∙ append-nil g.got)) in
    (g.got, g.gets, record { begins = inr (refl, first); cause = asks_ready (Query query) query parts w refl found.held; leaves = inl (same_world w) })

-- the sink failed meanwhile
pub query_fails : (settings : Settings) (query : List ℕ) (parts : Parts) (w : World) (hits : List Hit) (before now : Option (List ℕ)) → IsFound query parts w hits → GetsFront before now (hit_lines parts.names hits) → (text : List ℕ) × (outcome : Result Answer Refusal) × GetsFront before now (text ++ line_of outcome) × Comes settings (Query query) w text outcome w
query_fails settings query parts w hits before now found front =
    let line : List ℕ = answer_line (ok.Selected (length hits)) in
    (hit_lines parts.names hits, Ok (ok.Selected (length hits)), GetsFront-first before now (hit_lines parts.names hits) line front, queries_told query parts found.tree hits (length hits) w found.selects found.lined refl)

-- few reads for the query and what is held are few for those that a command names
pub asks_few : (text query : List ℕ) (state : State) (parts other : Parts) (before now : ℕ) → ReadsFew text parts before now → parts_in state ≡ Some parts → Some text ≡ Some query → parts_in state ≡ Some other → ReadsFew query other before now
asks_few text query state parts other before now few held asked named =
    let same : text ≡ query = same_Some text query asked in
    let parts_same : parts ≡ other = same_Some parts other (sym held ∙ named) in
    subst (λ (q : List ℕ). ReadsFew q other before now) same (subst (λ (p : Parts). ReadsFew text p before now) parts_same few)
