-- Nodes as trees of records, and how they are written out. A tree may break off, on its right edge.
use Rattle.std.specs.Prelude.{◌≡◌, ℕ, suc, ◌+◌, max, Bool, true, false, cond, ◌&&◌, List, [], ◌∷◌, Option}
use Rattle.std.specs.List.{AllByRecursion}
use Rattle.records.specs.declared.location.Location.{Location}
use Rattle.records.specs.declared.location.NodeOrigin.{NodeOrigin}
use Rattle.records.specs.declared.tags.SfTag.{SfTag}
use Rattle.records.specs.declared.record.Place.{Place}
use Rattle.records.specs.declared.record.ScalarStyle.{ScalarStyle}
use Rattle.records.specs.declared.record.Event.{Event}
use Rattle.records.specs.declared.record.Event.TheVariants.{Scalar, SeqStart, SeqEnd, MapStart, MapEnd, RecursiveAlias}
use Rattle.records.specs.declared.record.Record.{Record}
use Rattle.records.specs.Places.{placed}
use Rattle.records.specs.Blank.{blank}

-- where an event stands, and why it stands there
pub record Mark : Type 0 where
  pub location : Location
  pub origin : NodeOrigin

abbrev pub rec : Mark → Event → Record
rec k e = record { location = k.location; origin = k.origin; event = e }

abbrev pub mark_of : Record → Mark
mark_of r = record { location = r.location; origin = r.origin }

-- what the start of a node holds, and a scalar
pub record Head : Type 0 where
  pub anchor : ℕ
  pub tag : SfTag
  pub raw : Option Place

pub record Text : Type 0 where
  pub head : Head
  pub style : ScalarStyle
  pub value : Place

abbrev pub scalar_event : Text → Event
scalar_event x = Scalar x.head.anchor x.head.tag x.head.raw x.style x.value

abbrev pub seq_event : Head → Event
seq_event h = SeqStart h.anchor h.tag h.raw

abbrev pub map_event : Head → Event
map_event h = MapStart h.anchor h.tag h.raw

pub data End : Type 0 where
  seq_end : End
  map_end : End

abbrev pub end_event : End → Event
end_event seq_end = SeqEnd
end_event map_end = MapEnd

-- why no node begins: nothing is left, or an end stands here, with what is behind it
pub data Cut : Type 0 where
  ended : Cut
  stray : Mark → End → List Record → Cut

-- A node: a scalar, a recursive alias, a sequence, a mapping; or the place where a node should begin and none does.
-- The children of a container stop at its end, whose mark they hold.
mutual
  pub data Node : Type 0 where
    scalar : Mark → Text → Node
    alias : Mark → ℕ → Node
    seq : Mark → Head → Nodes → Node
    dict : Mark → Head → Pairs → Node
    cut : Cut → Node

  pub data Nodes : Type 0 where
    none : Mark → Nodes
    more : Node → Nodes → Nodes

  pub data Pairs : Type 0 where
    done : Mark → Pairs
    pair : Node → Node → Pairs → Pairs

abbrev pub edge : Cut → List Record
edge ended = []
edge (stray k e r) = rec k (end_event e) ∷ r

-- the records of a node, with what stands behind it; behind a cut stands what the cut says
abbrev mutual
  pub flat : Node → List Record → List Record
  flat (scalar k x) r = rec k (scalar_event x) ∷ r
  flat (alias k a) r = rec k (RecursiveAlias a) ∷ r
  flat (seq k h ns) r = rec k (seq_event h) ∷ flats ns r
  flat (dict k h ps) r = rec k (map_event h) ∷ flatp ps r
  flat (cut c) r = edge c

  pub flats : Nodes → List Record → List Record
  flats (none k) r = rec k SeqEnd ∷ r
  flats (more n ns) r = flat n (flats ns r)

  pub flatp : Pairs → List Record → List Record
  flatp (done k) r = rec k MapEnd ∷ r
  flatp (pair k v ps) r = flat k (flat v (flatp ps r))

-- how many records a node has
abbrev mutual
  pub size : Node → ℕ
  size (scalar k x) = 1
  size (alias k a) = 1
  size (seq k h ns) = suc (sizes ns)
  size (dict k h ps) = suc (sizep ps)
  size (cut c) = 0

  pub sizes : Nodes → ℕ
  sizes (none k) = 1
  sizes (more n ns) = size n + sizes ns

  pub sizep : Pairs → ℕ
  sizep (done k) = 1
  sizep (pair k v ps) = size k + size v + sizep ps

-- how many containers stand in one another
abbrev mutual
  pub depth : Node → ℕ
  depth (scalar k x) = 0
  depth (alias k a) = 0
  depth (seq k h ns) = suc (depths ns)
  depth (dict k h ps) = suc (depthp ps)
  depth (cut c) = 0

  pub depths : Nodes → ℕ
  depths (none k) = 0
  depths (more n ns) = max (depth n) (depths ns)

  pub depthp : Pairs → ℕ
  depthp (done k) = 0
  depthp (pair k v ps) = max (max (depth k) (depth v)) (depthp ps)

-- whether nothing of a node breaks off
abbrev mutual
  pub whole : Node → Bool
  whole (scalar k x) = true
  whole (alias k a) = true
  whole (seq k h ns) = wholes ns
  whole (dict k h ps) = wholep ps
  whole (cut c) = false

  pub wholes : Nodes → Bool
  wholes (none k) = true
  wholes (more n ns) = whole n && wholes ns

  pub wholep : Pairs → Bool
  wholep (done k) = true
  wholep (pair k v ps) = whole k && (whole v && wholep ps)

-- each place of a node lies in a text of n bytes
abbrev pub Inside : ℕ → Node → Type 0
Inside n t = AllByRecursion (λ r. placed n r.event ≡ true) (flat t [])

-- an end that closes its own container is not read as one that is out of place
abbrev pub cut_by : End → Cut → Bool
cut_by e ended = false
cut_by seq_end (stray k seq_end r) = true
cut_by seq_end (stray k map_end r) = false
cut_by map_end (stray k seq_end r) = false
cut_by map_end (stray k map_end r) = true

abbrev pub cut_at : End → Node → Bool
cut_at e (scalar k x) = false
cut_at e (alias k a) = false
cut_at e (seq k h ns) = false
cut_at e (dict k h ps) = false
cut_at e (cut c) = cut_by e c

-- what stands for the children behind one that breaks off
abbrev pub no_nodes : Nodes
no_nodes = none (mark_of blank)

abbrev pub no_pairs : Pairs
no_pairs = done (mark_of blank)

-- a tree as events are read to it: behind a node that breaks off there is nothing
abbrev mutual
  pub Sound : Node → Type 0
  Sound (scalar k x) = Unit {0}
  Sound (alias k a) = Unit {0}
  Sound (seq k h ns) = Sounds ns
  Sound (dict k h ps) = Soundp ps
  Sound (cut c) = Unit {0}

  pub Sounds : Nodes → Type 0
  Sounds (none k) = Unit {0}
  Sounds (more n ns) = (cut_at seq_end n ≡ false) × Sound n × cond (whole n) (Sounds ns) (ns ≡ no_nodes)

  pub Soundp : Pairs → Type 0
  Soundp (done k) = Unit {0}
  Soundp (pair k v ps) = (cut_at map_end k ≡ false) × Sound k × cond (whole k) (Sound v × cond (whole v) (Soundp ps) (ps ≡ no_pairs)) ((v ≡ cut ended) × (ps ≡ no_pairs))

-- events read as a tree, whole with what is left behind it, or broken off with nothing left
pub record Reads (es : List Record) (t : Node) (rest : List Record) : Type 0 where
  pub sound : Sound t
  pub is : es ≡ flat t rest
  pub all : whole t ≡ false → rest ≡ []
