-- The list of a line: how many nodes it may have, and what is sent to each of them.
use Rattle.std.proofs.Common.{◌≡◌, ℕ, suc, ◌+◌, ◌-◌, ◌%◌, ◌<◌, ◌≤◌, true, false, cond, ◌==◌, List, [], ◌∷◌, append_assoc, length, get_or, length-append, refl, sym, ap, ◌∙◌, arith}
use Rattle.std.proofs.lemmas.Bool.Decides.{nat_tests}
use Rattle.line_map.specs.Sizes.{Sizes, home_of}
use Rattle.dir_header.specs.Sharers.{Directory, list_at}
use Rattle.dir_header.specs.HomeSides.{HomeView, IsHome, header_at}
use Rattle.op_model.specs.declared.messages.Msg.TheVariants as msg
use Rattle.op_model.specs.Nodes.{Nodes, listed, unlist, count, in_order, count-unlist, count-in_order}
use Rattle.op_model.specs.Lines.{first_of_list, to_each, to_listed}
use Rattle.op_model.specs.Tables.Home.{no_other}
use Rattle.op_model.specs.Events.Node.{messages}
use Rattle.op_model.proofs.Public.{count-below}
use Rattle.msg_words.specs.SendList.{SendList}
use Rattle.dir_header.proofs.Public.{some-listed}
use Rattle.node_share.specs.Parts.{sent}
use Rattle.node_share.proofs.Wants.{sent-none}

pub first-place : (nodes : List ℕ) → get_or nodes 0 0 ≡ first_of_list nodes
first-place [] = refl
first-place (node ∷ nodes) = refl

length-messages : (line : ℕ) (nodes : List ℕ) → length (messages line (to_each nodes)) ≡ length nodes
length-messages line [] = refl
length-messages line (node ∷ nodes) = ap suc (length-messages line nodes)

-- what is sent, with an Inv to each node that is left, stays what is to be sent
module _ (out start : SendList) (line : ℕ) (left : List ℕ) (list : Nodes) (due : sent out (messages line (to_each left)) ≡ sent start (messages line (to_listed list))) where
  pub one-more : (out' : SendList) (node : ℕ) (left' : List ℕ) → left ≡ node ∷ left' → out' ≡ sent out ((node, msg.Inv line) ∷ []) → sent out' (messages line (to_each left')) ≡ sent start (messages line (to_listed list))
  one-more out' node left' is pushed =
      ap (λ o. sent o (messages line (to_each left'))) pushed
      ∙ ap (λ l. record { list = l; room = out.room }) (append_assoc out.list ((node, msg.Inv line) ∷ []) (messages line (to_each left')))
      ∙ ap (λ ns. sent out (messages line (to_each ns))) (sym is) ∙ due

  pub room-left : (node n : ℕ) (left' : List ℕ) → left ≡ node ∷ left' → count list ≤ n → length start.list + n ≤ start.room → length out.list < out.room
  room-left node n left' is few room =
      let some : length left ≡ suc (length left') = ap length is in
      let long : length out.list + length left ≡ length start.list + count list =
      ap (λ k. length out.list + k) (sym (length-messages line left)) ∙ sym (length-append out.list (messages line (to_each left)))
      ∙ ap (λ o. length o.list) due
      ∙ length-append start.list (messages line (to_listed list)) ∙ ap (λ k. length start.list + k) (length-messages line (in_order list) ∙ sym (count-in_order list)) in
      let same : out.room ≡ start.room = ap (λ o. o.room) due in
      omega (arith, some, long, same)

  pub all-sent : left ≡ [] → out ≡ sent start (messages line (to_listed list))
  all-sent is = sent-none out ∙ ap (λ ns. sent out (messages line (to_each ns))) (sym is) ∙ due

-- the list of a line of this home, as its directory has it
module _ {D : Type 0} (dir : Directory) (home : HomeView D) (is : IsHome dir home) (line : ℕ) (own : home_of home.sizes line ≡ home.node) where
  pub listed-at : (m lines : ℕ) (sizes : Sizes) → sizes ≡ home.sizes → lines ≡ sizes.lines → m ≡ line % lines → list_at dir m ≡ (header_at home line).list
  listed-at m lines sizes same count place =
      ap (list_at dir) (place ∙ ap (λ n. line % n) (count ∙ ap (λ z. z.lines) same)) ∙ sym (is.lists line own)

  pub few-listed : count (header_at home line).list ≤ home.sizes.nodes
  few-listed = count-below home.sizes.nodes (header_at home line).list (λ q. is.below line q own)

pub alone-listed : (list : Nodes) (node : ℕ) → listed list node ≡ true → (count list == 1) ≡ no_other node list
alone-listed list node there =
    let c = count-unlist list node in
    let s = some-listed list node there in
    by (count list) (count (unlist list node)) (c ∙ ap (λ b. cond b (count list - 1) (count list)) there) s
  where
    by : (n n' : ℕ) → n' ≡ n - 1 → 0 < n → (n == 1) ≡ (n' == 0)
    by n n' e h = grind (arith, nat_tests)

pub none-listed : (list : Nodes) (node : ℕ) → listed list node ≡ false → (count list == 0) ≡ no_other node list
none-listed list node off = ap (λ n. n == 0) (sym (count-unlist list node ∙ ap (λ b. cond b (count list - 1) (count list)) off))
