-- A start or reply for one node leaves every other node's connection and bytes unchanged (document 01, "The manager"): the connection as it
-- is found in the table, and the bytes of its room in the store.
use Rattle.std.specs.Prelude.{ℕ, ◌≡◌, List, [], ◌∷◌, eqb, Option, Some, None, IsSomeAnd}
use Rattle.laws.specs.Pick.{pick}
use Rattle.codec.specs.Bytes.{Bytes}
use Rattle.manager.specs.Calls.{Call, replies, starts, turns}
use Rattle.man_table.specs.Table.{live, room_in}
use Rattle.theorems.specs.Run.{Event, Host, next, reached}
use Rattle.theorems.specs.Types.{SdoClientConnection, SdoClientManager}

-- what a manager holds for a node: nothing, or a connection with the bytes of its room
abbrev pub Holding : Type 0
Holding = Option (SdoClientConnection × Bytes)

abbrev pub holding_in : ℕ → List SdoClientConnection → Bytes → Holding
holding_in node [] store = None
holding_in node (c ∷ l) store = pick (eqb c.target_node_id node) (Some (c, room_in store c)) (holding_in node l store)

abbrev pub holding : SdoClientManager → Bytes → ℕ → Holding
holding m store node = holding_in node (live m) store

-- something is held, and this is so of it
abbrev pub Held : Holding → (SdoClientConnection → Bytes → Type 0) → Type 0
Held h is = IsSomeAnd h (λ (p : SdoClientConnection × Bytes). is p.0 p.1)

-- a start or a reply for another node
abbrev pub ForAnother : ℕ → Call → Type 0
ForAnother node (starts k job n) = k ≡ node → ⊥
ForAnother node (turns t n) = ⊥
ForAnother node (replies k seq cmd payload) = k ≡ node → ⊥

unfoldable pub QuietOthers : Type 0
QuietOthers =
    (lent : Bytes) (earlier : List Event) (x : Event) (node : ℕ) → ForAnother node x.call
    → let before : Host = reached lent earlier in
    let after : Host = next before x in
    holding after.manager after.store node ≡ holding before.manager before.store node
