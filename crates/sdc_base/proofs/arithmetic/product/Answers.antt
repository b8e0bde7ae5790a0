use Rattle.sdc_base.proofs.ArithmeticFacts.{product_capped}
use Rattle.sdc_base.proofs.arithmetic.product.Goals as goal

pub returns : goal.returns
returns c =
    product_capped c.args.left c.args.right _ _ _ _ c.saturating_mul-whole.ensures c.nearest-decimals.ensures c.saturating_add.ensures c.min.ensures
