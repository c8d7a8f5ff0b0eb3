-- Topics: interface name, major version, manufacturer, serial number and topic name (VDA 5050, topic structure).
use Rattle.std.specs.Prelude.{◌≡◌, ℕ, List, ◌++◌, codes}
use Rattle.agv_header.specs.Name.{IsName}
use Rattle.agv_header.specs.declared.key.VehicleKey.{VehicleKey}
use Rattle.agv_header.specs.declared.topic.Topic.{Topic}
use Rattle.agv_header.specs.declared.topic.Topic.TheVariants as topic

-- the last level of a topic
abbrev pub topic_name : Topic → List ℕ
topic_name topic.Order = codes "order"
topic_name topic.InstantActions = codes "instantActions"
topic_name topic.State = codes "state"

-- the text of a topic of this interface (major version 2) with the last three levels given
abbrev pub with_levels : List ℕ → List ℕ → List ℕ → List ℕ
with_levels manufacturer serial name =
    codes "uagv/v2/" ++ manufacturer ++ codes "/" ++ serial ++ codes "/" ++ name

-- the text of a vehicle's topic, as `uagv/v2/KIT/0001/order`
abbrev pub topic_of : VehicleKey → Topic → List ℕ
topic_of key t = with_levels key.manufacturer key.serial (topic_name t)

-- the text is this topic of this vehicle, whose manufacturer and serial number are names
pub record IsTopicText (text : List ℕ) (key : VehicleKey) (t : Topic) : Type 0 where
  pub manufacturer : IsName key.manufacturer
  pub serial : IsName key.serial
  pub levels : text ≡ topic_of key t
