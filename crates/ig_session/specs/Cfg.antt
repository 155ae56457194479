-- Which configurations a session may have.
use Rattle.std.specs.Prelude.{◌<◌, ◌≤◌}
use Rattle.ig_deals.specs.declared.cfg.SessionCfg.{SessionCfg}

-- the node is one of at most 256, and a cache has 1 to 65,000 partitions
pub record IsCfg (cfg : SessionCfg) : Type 0 where
  pub node : cfg.node < cfg.nodes
  pub nodes : cfg.nodes ≤ 256
  pub some : 1 ≤ cfg.parts
  pub most : cfg.parts ≤ 65000
