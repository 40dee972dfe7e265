-- What a builder of trees has built.
use Rattle.std.specs.Prelude.{◌≡◌, ℕ, Bool, List, [], ◌∷◌, length, refl}
use Rattle.std.specs.Coded.{Coded, code_by, coded×, coded_list, coded_ℕ, coded_bool}
use Rattle.std.specs.List.{AllByRecursion}
use base.Stored.{coded_via}
use Rattle.plain_tree.specs.Tree.{Tree, trees, kind_code, kind_code-inj}
use Rattle.xml_nodes.specs.Machine.{Event, Opened, Leaf, Closed, events_all, AreShaped}
use Rattle.xml_nodes.specs.Taking.{Built}
use Rattle.xml_profile.specs.declared.tree_builder.OpenElement.{OpenElement}

-- The one to one code of calls, which a model asks for.
abbrev pub event_parts : Event → List (List ℕ)
event_parts (Opened name) = (0 ∷ []) ∷ name ∷ []
event_parts (Leaf kind name value) = (1 ∷ kind_code kind ∷ []) ∷ name ∷ value ∷ []
event_parts Closed = (2 ∷ []) ∷ []

pub event_parts-inj : (a b : Event) → event_parts a ≡ event_parts b → a ≡ b
event_parts-inj (Opened n) (Opened m) e = cc
event_parts-inj (Leaf k n v) (Leaf l m w) e =
    let kinds : kind_code k ≡ kind_code l = cc in
    let same = kind_code-inj k l kinds in
    cc
event_parts-inj Closed Closed e = refl
event_parts-inj _ _ e = cc

abbrev pub event_code : Coded Event
event_code = coded_via (coded_list (coded_list coded_ℕ)) event_parts event_parts-inj

abbrev pub built_code : Coded Built
built_code =
    code_by (List Event × (Bool × ℕ)) (coded× (coded_list event_code) (coded× coded_bool coded_ℕ)) (λ b. (b.log, (b.sound, b.depth)))
    (λ p. record { log = p.0; sound = p.1.0; depth = p.1.1 }) (λ _. refl)

-- the calls that made the open elements, the outermost first, and then these; each has the nodes that stand in front of it
abbrev pub frames_log : List OpenElement → List Event → List Event
frames_log [] rest = rest
frames_log (f ∷ fs) rest = events_all (trees f.kids) (Opened f.name ∷ frames_log fs rest)

abbrev pub built_log : List OpenElement → List Tree → List Event
built_log outer kids = frames_log outer (events_all (trees kids) [])

abbrev pub built_of : List OpenElement → List Tree → Bool → Built
built_of outer kids sound = record { log = built_log outer kids; sound = sound; depth = length outer }

-- all nodes are of the shape that calls make
pub record AreBuilt (outer : List OpenElement) (kids : List Tree) : Type 0 where
  pub before : AllByRecursion (λ f. AreShaped (trees f.kids)) outer
  pub inside : AreShaped (trees kids)
