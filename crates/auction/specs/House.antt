-- What happens in an auction house, and what its parts make of what they are given.
use Rattle.std.specs.Prelude.{ℕ, ◌==◌, ◌&&◌, ◌+◌, ◌-◌, ◌/◌, ◌^◌, not, min, nat_lt, Bool, false, Option, Some, None, if◌then◌else◌}
use Rattle.msg_system.specs.Prelude.{sum_onto}
use Rattle.msg_function.specs.Prelude.{Answer, Given, nothing, put}
use Rattle.auction.specs.declared.event.Event.{Event}
use Rattle.auction.specs.declared.event.Event.TheVariants.{Opened, Bid, Called, Sold, Passed, Record, Purse, Till, Lots}
use Rattle.auction.specs.declared.part.Part.{Part}
use Rattle.auction.specs.declared.part.Part.TheVariants.{Auctioneer, Bidder, Cashier, Porter, Press}

-- what comes of the left after the right happened
abbrev pub plus_event : Event → Event → Event
plus_event _ (Opened lot reserve) = Called lot reserve 0
plus_event (Called lot price leader) (Bid who amount) =
    if nat_lt price amount then Called lot amount who else Called lot price leader
plus_event (Passed _) (Called lot price leader) = Called lot price leader
plus_event (Called _ _ _) (Called lot price leader) = Called lot price leader
plus_event (Record best) (Sold lot to price) = if nat_lt best price then Record price else Record best
plus_event (Purse who left) (Sold lot to price) = if to == who then Purse who (left - price) else Purse who left
plus_event (Till had) (Sold lot to price) = Till (min (had + price / 10) (2 ^ 32 - 1))
plus_event (Lots n) (Sold lot to price) = Lots (n - 1)
plus_event (Lots n) (Passed lot) = Lots (n - 1)
plus_event kept _ = kept

-- the price that an event tells of
abbrev pub price_of : Event → ℕ
price_of (Called lot price leader) = price
price_of (Record price) = price
price_of _ = 0

-- what an auctioneer is and says after this call, so many frames without a better bid
abbrev pub called : ℕ → Event → Part × Answer Event
called quiet (Called lot price leader) =
    if nat_lt quiet 2 then (Auctioneer (Called lot price leader) quiet, put 0 (Called lot price leader) nothing)
    else (Auctioneer (Passed lot) quiet, if leader == 0 then put 2 (Passed lot) nothing else put 1 (Sold lot leader price) nothing)
called quiet call = (Auctioneer call quiet, nothing)

abbrev pub bid_of : ℕ → Event → Event → Answer Event
bid_of limit (Purse who left) (Called lot price leader) =
    if not (leader == who) && nat_lt price limit && nat_lt price left then put 0 (Bid who (price + 1)) nothing else nothing
bid_of limit _ _ = nothing

-- the value that is there, after these events
abbrev pub changed : Option Event → (Event → Event) → Answer Event
changed (Some value) f = put 0 (f value) nothing
changed None f = nothing

abbrev pub answers_of : Part → Given Event → Part × Answer Event
answers_of (Auctioneer before quiet) given =
    let call : Event = sum_onto plus_event (sum_onto plus_event before (given.messages 0)) (given.messages 1) in
    called (if price_of call == price_of before then min (quiet + 1) (2 ^ 32 - 1) else 0) call
answers_of (Bidder before limit) given =
    let purse : Event = sum_onto plus_event before (given.messages 1) in
    (Bidder purse limit, bid_of limit purse (sum_onto plus_event (Passed 0) (given.messages 0)))
answers_of Cashier given = (Cashier, changed (given.value 1) (λ till. sum_onto plus_event till (given.messages 0)))
answers_of Porter given =
    (Porter, changed (given.value 2) (λ lots. sum_onto plus_event (sum_onto plus_event lots (given.messages 0)) (given.messages 1)))
answers_of (Press before) given =
    let best : Event = sum_onto plus_event before (given.messages 0) in
    (Press best, if price_of best == price_of before then nothing else put 0 best nothing)
